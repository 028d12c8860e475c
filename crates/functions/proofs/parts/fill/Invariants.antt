use Rattle.std.proofs.Common.{◌≡◌, ◌++◌, drop}
use Rattle.definition.specs.File.{records}
use Rattle.functions.proofs.parts.fill.Given as goal

abbrev pub invariant-loop-i : goal.invariant-loop-i
invariant-loop-i g l = l.into ≡ records (g.T.FromBytes.read_at l.part) g.T.FromBytes.SIZE l.i 0 ++ drop l.i l.initial.into
