-- CHECKS. Document 01: "Checks run down the table and along each row." An operation has a list of conditions in that order, each with the number of
-- the refusal that it gives where it fails; the first that fails refuses.
use Rattle.std.specs.Prelude.{ℕ, zero, suc, ◌-◌, List, [], ◌∷◌, Bool, cond}

-- A condition and its number, which is 1 or more. The number is kept less 1, so that 0 can stand for "no refusal".
pub record Condition : Type 0 where
  pub holds : Bool
  pub number_less_one : ℕ

infix 20 ◌otherwise◌
abbrev pub ◌otherwise◌ : Bool → ℕ → Condition
◌otherwise◌ b n = record { holds = b; number_less_one = n - 1 }

abbrev pub Conditions : Type 0
Conditions = List Condition

-- the number of the first condition that fails, 0 where all hold
unfoldable pub judge : Conditions → ℕ
judge [] = 0
judge (c ∷ cs) = cond c.holds (judge cs) (suc c.number_less_one)

-- what a checked operation gives: the number of its refusal, or its result
pub data Checked (A : Type 0) : Type 0 where
  refused : ℕ → Checked A
  accepted : A → Checked A

abbrev pub decided : {A : Type 0} → ℕ → A → Checked A
decided zero a = accepted a
decided (suc n) a = refused (suc n)

-- the result, where all the conditions hold
unfoldable pub guard : {A : Type 0} → Conditions → A → Checked A
guard cs a = decided (judge cs) a
