-- A signed number's text by its sign, which code tests on the number as its bits have it. The edits that write the sign apart cite these, so that what refuses them is the text that
-- they write. Assumes nothing.
use Rattle.std.proofs.Common.{◌≡◌, refl, ◌∷◌, true, false, ℤ, pos, negsuc, FitsSigned, to_z, of_z, w64, to_z-of_z, arith, ltb-true}
use Rattle.std.specs.Int.Signed.{lt_z}
use Rattle.std.specs.Prelude.{nat_abs}
use Rattle.text.specs.Text.{decimal, signed_decimal}

minus : (z : ℤ) → lt_z z (pos 0) ≡ true → signed_decimal z ≡ 45 ∷ decimal (nat_abs z)
unfolding signed_decimal
minus (pos k) t = absurd (omega (arith, ltb-true k 0 t))
minus (negsuc k) t = refl

plain : (z : ℤ) → lt_z z (pos 0) ≡ false → signed_decimal z ≡ decimal (nat_abs z)
unfolding signed_decimal
plain (pos k) t = refl
plain (negsuc k) t = absurd (differ t)
  where
    differ : true ≡ false → ⊥
    differ e = cc

module _ (z : ℤ) (fits : FitsSigned w64 z) where
  pub negative_text : lt_z (to_z w64 (of_z w64 z)) (pos 0) ≡ true → signed_decimal z ≡ 45 ∷ decimal (nat_abs (to_z w64 (of_z w64 z)))
  negative_text t = rw (to_z-of_z fits) (minus z (rw (to_z-of_z fits) at t))

  pub natural_text : lt_z (to_z w64 (of_z w64 z)) (pos 0) ≡ false → signed_decimal z ≡ decimal (nat_abs (to_z w64 (of_z w64 z)))
  natural_text t = rw (to_z-of_z fits) (plain z (rw (to_z-of_z fits) at t))
