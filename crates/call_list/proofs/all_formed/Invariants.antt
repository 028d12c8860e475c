use Prim.Native.Nat.{◌*◌, ◌-◌}
use mathlib.Core.Path.{◌≡◌}
use Rattle.definition.specs.File.{records}
use Rattle.call_list.specs.Encoding.{formed_at, all_true}
use Rattle.call_list.proofs.all_formed.Given as goal

abbrev pub invariant-loop-i : goal.invariant-loop-i
invariant-loop-i l = all_true (records (formed_at l.calls l.numbers) 3 (l.n - l.i) (3 * l.i)) ≡ all_true (records (formed_at l.calls l.numbers) 3 l.n 0)

abbrev pub decreases-loop-i : goal.decreases-loop-i
decreases-loop-i l = l.n - l.i
