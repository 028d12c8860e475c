-- `load_files::cells::write_floats` meets its contract. The loop's invariant: what is left to be written is the cells after so many of them. Assumes nothing.
use Rattle.definition.specs.Written.{u32_bytes, bytes_of}
use Rattle.text.specs.Writing.{Left}
use Rattle.load_files.specs.Draws.{drawn}
use Rattle.load_files.specs.LoadFile.{drawn_cell}
use Rattle.load_files.proofs.Drawing.{left}
use Rattle.load_files.proofs.cells.write_floats.Given as goal

abbrev pub invariant-loop : goal.invariant-loop
invariant-loop l = Left (bytes_of u32_bytes (drawn drawn_cell 1 36 l.seed)) (left drawn_cell 1 u32_bytes 36 l.counter l.s) l.initial.out l.out
