-- COMMON STATEMENTS DONE IN THE LOOP, in terms of the definition.
use Rattle.std.specs.Prelude.{ℕ, zero, suc, ◌<◌, ◌≡◌, List, Option, Some, None, ℤ}
use Rattle.definition.specs.Checks.{judge}
use Rattle.definition.specs.Cells.{float, Typing, access}
use Rattle.definition.specs.Statements.{Does, next}

-- the cells below n pass as floats
pub record AllFloats (g : Typing) (n : ℕ) : Type 0 where
  pub pass : (cell : ℕ) → cell < n → judge (access g float cell) ≡ 0

-- a statement that was done goes on at a position with new cells; one that wasn't has changed none
abbrev pub QuicklyDoes : Option ℤ → Does → List ℕ → List ℕ → Type 0
QuicklyDoes (Some p) d new old = next p new ≡ d
QuicklyDoes None d new old = new ≡ old

-- n statements that do nothing else, one after the other: from the position p and these cells to q and those
abbrev pub Goes : (ℤ → List ℕ → Does) → ℕ → ℤ → List ℕ → ℤ → List ℕ → Type 0
Goes does zero p cells q new = (p ≡ q) × (cells ≡ new)
Goes does (suc n) p cells q new = (p' : ℤ) × ((cells' : List ℕ) × ((does p cells ≡ next p' cells') × Goes does n p' cells' q new))

pub record GoesOn (does : ℤ → List ℕ → Does) (n : ℕ) (p : ℤ) (cells : List ℕ) (q : ℤ) (new : List ℕ) : Type 0 where
  pub goes : Goes does n p cells q new
