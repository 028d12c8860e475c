-- The arguments that are left, copied in the cells as they are, give what all of them give at the start.
use Rattle.std.proofs.Common.{◌≡◌, ◌-◌, true, length, drop}
use Rattle.definition.specs.Machine.{arguments, copied, copies_present}
use Rattle.progs.proofs.copies.copy_arguments.Given as goal

abbrev pub invariant-loop-i : goal.invariant-loop-i
invariant-loop-i l =
    (copies_present (length l.initial.cells) (arguments (l.argc - l.i) l.i l.to (drop l.i l.argsz)) ≡ true)
    × (copied (arguments (l.argc - l.i) l.i l.to (drop l.i l.argsz)) l.cells ≡ copied (arguments l.argc 0 l.start l.argsz) l.initial.cells)
