-- After i turns the first i cells are copied.
use Rattle.std.proofs.Common.{◌≡◌}
use Rattle.definition.specs.Machine.{copied, successive}
use Rattle.progs.proofs.copies.copy_cells.Given as goal

abbrev pub invariant-loop-i : goal.invariant-loop-i
invariant-loop-i l = l.cells ≡ copied (successive l.i l.from l.to) l.initial.cells
