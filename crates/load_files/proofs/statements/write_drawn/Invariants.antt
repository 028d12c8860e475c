-- `load_files::statements::write_drawn` meets its contract. The loop's invariant: what is left to be written is the statements after so many of them. Assumes
-- nothing.
use Rattle.definition.specs.Written.{statement_bytes, bytes_of}
use Rattle.text.specs.Writing.{Left}
use Rattle.load_files.specs.Draws.{drawn}
use Rattle.load_files.specs.LoadFile.{drawn_statement}
use Rattle.load_files.proofs.Drawing.{left}
use Rattle.load_files.proofs.statements.write_drawn.Given as goal

abbrev pub invariant-loop : goal.invariant-loop
invariant-loop l =
    Left (bytes_of statement_bytes (drawn drawn_statement 4 l.n l.seed)) (left drawn_statement 4 statement_bytes l.n l.counter l.s) l.initial.out l.out
