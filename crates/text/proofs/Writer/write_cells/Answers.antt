-- `text::Writer::write_cells` meets its contract: each call puts the next part of the text. Assumes nothing.
use Rattle.text.specs.Writing.{wrote_both}
use Rattle.text.proofs.Writer.write_cells.Goals as goal

pub returns : goal.returns
returns c =
    wrote_both c.write_cell_field.ensures
    (wrote_both c.write_cell_field-2.ensures (wrote_both c.write_cell_field-3.ensures c.write_byte.ensures))
