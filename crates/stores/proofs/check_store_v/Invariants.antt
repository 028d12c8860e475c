use Rattle.std.specs.Prelude.{ℕ, ◌+◌, ◌-◌, ◌<◌, ◌≤◌}
use Rattle.std.proofs.Common.{◌≡◌}
use Rattle.typed.specs.Typing.{typing}
use Rattle.stores.specs.Refusals.{copies_refusal}
use Rattle.stores.proofs.check_store_v.Given as goal

pub record Checked (count : ℕ) (a b i left all : ℕ) : Type 0 where
  -- what is left to check answers for all
  pub rest_refuses : left ≡ all
  pub a_below : 0 < i → a + i ≤ count
  pub b_below : 0 < i → b + i ≤ count

abbrev pub invariant-loop-i : goal.invariant-loop-i
invariant-loop-i l =
    let g = typing l.globals.defs.now l.globals.count in
    Checked l.globals.count l.at.a l.at.b l.i
    (copies_refusal g l.raw (3 - l.i) (l.at.a + l.i) (l.at.b + l.i))
    (copies_refusal g l.raw 3 l.at.a l.at.b)
