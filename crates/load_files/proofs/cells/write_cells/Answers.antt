-- `load_files::cells::write_cells` meets its contract: the cells that are 0 are written, then those that are drawn. Assumes nothing.
use Rattle.std.proofs.Common.{sym}
use Rattle.text.specs.Writing.{wrote_same, wrote_both, left_all, left_room, next_room, left_next}
use Rattle.load_files.specs.Laws.{cells_parts}
use Rattle.load_files.proofs.cells.write_cells.Goals as goal

pub write_bytes-requires : goal.write_bytes-requires
write_bytes-requires c = next_room _ _ (left_all {w = c.args.out.now} (cells_parts c.args.seed)) c.requires

pub write_floats-requires : goal.write_floats-requires
write_floats-requires c = left_room (left_next (left_all {w = c.args.out.now} (cells_parts c.args.seed)) c.write_bytes.ensures) c.requires

pub returns : goal.returns
returns c = wrote_same (wrote_both c.write_bytes.ensures c.write_floats.ensures) (sym (cells_parts _))
