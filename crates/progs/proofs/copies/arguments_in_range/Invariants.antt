-- All the arguments are there if those that are left are.
use Rattle.std.proofs.Common.{◌≡◌, ◌-◌, drop}
use Rattle.definition.specs.Machine.{arguments, copies_present}
use Rattle.progs.proofs.copies.arguments_in_range.Given as goal

abbrev pub invariant-loop-i : goal.invariant-loop-i
invariant-loop-i l = copies_present l.size (arguments (l.argc - l.i) l.i l.to (drop l.i l.argsz)) ≡ copies_present l.size (arguments l.argc 0 l.start l.argsz)
