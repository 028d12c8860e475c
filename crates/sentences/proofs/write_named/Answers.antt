-- `sentences::write_named` meets its contract: the name is put, then the number. Assumes nothing.
use Rattle.text.specs.Writing.{wrote_both}
use Rattle.sentences.proofs.write_named.Goals as goal

pub returns : goal.returns
returns c = wrote_both c.write_bytes.ensures c.write_decimal.ensures
