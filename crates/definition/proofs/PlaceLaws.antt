-- Laws of the numbers that a host gives: a signed number as a place below a number of places.
use Rattle.std.specs.Prelude.{ℕ, ◌<◌, ◌≡◌, refl, true, ℤ, pos, negsuc, ltb}
use Rattle.std.proofs.Common.{sym, arith, le-ltb, ltb-true}
use Rattle.std.proofs.lemmas.Bool.{false≢true}
use Rattle.definition.specs.Statements.{place_of}
use Rattle.definition.specs.Operations.{natural, below}

-- a place is below the number of places exactly where the signed number is from 0 up to below it
pub below_place : (n : ℕ) (a : ℤ) → below a n ≡ ltb (place_of n a) n
below_place n (pos i) = refl
below_place n (negsuc i) = sym (le-ltb n n (omega arith))

pub below_natural : (n : ℕ) (a : ℤ) → below a n ≡ true → natural a < n
below_natural n (pos i) h = ltb-true i n h
below_natural n (negsuc i) h = absurd (false≢true h)

pub place_zero : (a : ℤ) → place_of 0 a ≡ natural a
place_zero (pos i) = refl
place_zero (negsuc i) = refl

pub place_natural : (n : ℕ) (a : ℤ) → place_of n a < n → natural a ≡ place_of n a
place_natural n (pos i) h = refl
place_natural n (negsuc i) h = absurd (omega arith)
