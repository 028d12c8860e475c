-- `load_files::statements::write_statement` meets its contract: each call writes the next number. Assumes nothing.
use Rattle.definition.specs.Written.{statement_bytes}
use Rattle.text.specs.Writing.{wrote_both}
use Rattle.load_files.proofs.statements.write_statement.Goals as goal

pub returns : goal.returns
unfolding statement_bytes
returns c = wrote_both (wrote_both (wrote_both c.write_u16.ensures c.write_u16-2.ensures) c.write_u16-3.ensures) c.write_u16-4.ensures
