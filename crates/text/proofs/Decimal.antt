-- What `itoa` prints of a number is its text. Assumes nothing.
use Rattle.std.proofs.Common.{◌≡◌, ℕ, suc, ◌<◌, ◌^◌, List, ◌∷◌, ℤ, pos, negsuc, FitsSigned, to_z, of_z, w64, to_z-of_z, sym, ap, arith}
use Rattle.std.proofs.lemmas.Fmt.{decimal_by_steps}
use Rattle.std.specs.Fmt as std
use Rattle.std.specs.Int.Signed.{mag}
use Rattle.text.specs.Text.{decimal, signed_decimal}
use Rattle.text.specs.Laws.{decimal_one, decimal_more}

pub printed_decimal : (n : ℕ) → n < 2 ^ 64 → std.decimal n ≡ decimal n
printed_decimal =
    decimal_by_steps (λ n text. text ≡ decimal n)
    (λ n h. sym (decimal_one n h))
    (λ n tenth h e. rw e (sym (decimal_more n h)))

signed : (z : ℤ) → mag z < 2 ^ 63 → std.signed_decimal z ≡ signed_decimal z
unfolding signed_decimal
signed (pos n) h = printed_decimal n (omega arith)
signed (negsuc n) h = ap (λ (t : List ℕ). 45 ∷ t) (printed_decimal (suc n) (omega arith))

-- of a number that the code has as its bits
pub printed_signed : (z : ℤ) → FitsSigned w64 z → std.signed_decimal (to_z w64 (of_z w64 z)) ≡ signed_decimal z
printed_signed z h = rw (to_z-of_z h) (signed z h.sfits)
