-- What it is that a run ended after so many statements. That function 1 of a load file always does is proved in proofs/Ends.antt.
use Prim.Native.Nat.{ℕ}
use Rattle.std.specs.Prelude.{◌≡◌}
use Rattle.definition.specs.declared.RunAnswer.TheVariants.{Ended}
use Rattle.definition.specs.Machine.{Ran}

-- a run that ended after so many statements
pub record EndedAfter (count : ℕ) (r : Ran) : Type 0 where
  pub answer : r.answer ≡ Ended
  pub statements : r.count ≡ count
