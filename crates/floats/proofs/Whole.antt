-- The whole part of a cell's float, from the fields of its pattern. Assumes nothing.
use Rattle.std.proofs.Common.{◌≡◌, ℕ, zero, suc, ◌+◌, ◌-◌, ◌*◌, ◌/◌, ◌%◌, ◌^◌, ◌<◌, ◌≤◌, min, Bool, true, false, cond, eqb, leb, ℤ, pos, negsuc, ◌-ℤ◌, neg_ℤ, sym, refl, ap, ◌∙◌, subst, lt_of_lt_of_le, mod-lt, mod-eq_of_lt, mul_assoc, mul_right_comm, arith, lit≤, pow_pos, pow_mono, pow-add, shl_lt, shr_lt, w32, SFits, to_z, of_z, lt-ltb, ne_eqb}
use native.Mathlib.Nat.{eq_of_mul-eq-mul_right, div-eq_of_lt}
use lib.Ieee.{Float, nan, inf, fin, binary32, up, down, odd, of_fields, of_bits, to_signed}
use lib.Ieee.Fits.{down_pos}
use lib.Ieee.Exact.{HasValue, odd_sign}
use lib.Ieee.Nearest.{div_same}
use mir.ValLaws.{to_z_pos, to_z-of_z}
use Rattle.definition.specs.Floats.{value, whole}
use Rattle.floats.specs.Scaled.{scaled}

-- the exponent's field
abbrev pub field : ℕ → ℕ
field x = x % 2147483648 / 8388608

-- the sign
abbrev pub sign : ℕ → Bool
sign x = leb 2147483648 x

-- ---- what the fields are read as

pub value_is : (x : ℕ) → value x ≡ of_fields binary32 (sign x) (field x) (x % 8388608)
unfolding of_bits
value_is x = refl

pub at_zero : (s : Bool) (t : ℕ) → HasValue (of_fields binary32 s 0 t) s (t * 2 ^ 0) (2 ^ 149)
unfolding of_fields
at_zero s t = odd_sign 24 s t 0 149

past : (b : Bool) (u v : Float) → b ≡ false → cond b u v ≡ v
past b u v h = ap (λ (a : Bool). cond a u v) h

pub at_normal : (s : Bool) (j t : ℕ) → suc j < 255 → HasValue (of_fields binary32 s (suc j) t) s ((8388608 + t) * 2 ^ j) (2 ^ 149)
unfolding of_fields
at_normal s j t h =
    subst (λ (v : Float). HasValue v s ((8388608 + t) * 2 ^ j) (2 ^ 149)) (sym (past (eqb (suc j) 255) (cond (eqb t 0) (inf s) nan) (odd 24 s (8388608 + t) j 149) (ne_eqb (suc j) 255 (λ e. omega arith))))
    (odd_sign 24 s (8388608 + t) j 149)

-- ---- fractions

-- a / c with a common factor taken out
pub lower : (v : Float) (s : Bool) (a c k : ℕ) → 0 < k → HasValue v s (a * k) (c * k) → HasValue v s a c
lower nan s a c k p h = h
lower (inf t) s a c k p h = h
lower (fin t m e) s a c k p h = (
  h.0,
  eq_of_mul-eq-mul_right k p (m * up e * c) (a * down e) (mul_assoc (m * up e) c k ∙ h.1 ∙ mul_right_comm a k (down e)),
)

-- the whole part, by the size as a fraction
pub signed_of : (v : Float) (s : Bool) (a c : ℕ) → 0 < c → HasValue v s a c → to_signed 31 v ≡ cond s (neg_ℤ (pos (min (a / c) 2147483648))) (pos (min (a / c) 2147483647))
unfolding to_signed
signed_of nan s a c p h = absurd h
signed_of (inf t) s a c p h = absurd h
signed_of (fin t m e) s a c p h =
    ap (λ (b : Bool). cond b (neg_ℤ (pos (min (m * up e / down e) 2147483648))) (pos (min (m * up e / down e) 2147483647))) h.0
    ∙ ap (λ (n : ℕ). cond s (neg_ℤ (pos (min n 2147483648))) (pos (min n 2147483647))) (div_same (m * up e) (down e) a c (down_pos e) p h.1)

-- ---- below 1

either : (s : Bool) → cond s (neg_ℤ (pos 0)) (pos 0) ≡ pos 0
either true = refl
either false = refl

nothing : (v : Float) (s : Bool) (a c : ℕ) → 0 < c → a < c → HasValue v s a c → pos 0 ≡ to_signed 31 v
nothing v s a c p h w = sym (signed_of v s a c p w ∙ ap (λ (n : ℕ). cond s (neg_ℤ (pos (min n 2147483648))) (pos (min n 2147483647))) (div-eq_of_lt h) ∙ either s)

pub digits_lt : (x : ℕ) → 8388608 + x % 8388608 < 2 ^ 24
digits_lt x = omega arith

fields_small : (s : Bool) (e t : ℕ) → t < 8388608 → e < 127 → pos 0 ≡ to_signed 31 (of_fields binary32 s e t)
fields_small s zero t h l = nothing (of_fields binary32 s 0 t) s (t * 2 ^ 0) (2 ^ 149) (pow_pos 149) (lt_of_lt_of_le (shl_lt 23 0 h) (pow_mono {i = 23} {j = 149} (lit≤ tt))) (at_zero s t)
fields_small s (suc j) t h l =
    nothing (of_fields binary32 s (suc j) t) s ((8388608 + t) * 2 ^ j) (2 ^ 149) (pow_pos 149)
    (lt_of_lt_of_le (shl_lt 24 j (omega arith)) (pow_mono {i = 24 + j} {j = 149} (omega arith))) (at_normal s j t (omega arith))

pub small : (x : ℕ) → field x < 127 → pos 0 ≡ whole x
small x h = fields_small (sign x) (field x) (x % 8388608) (mod-lt x (pow_pos 23)) h ∙ ap (to_signed 31) (sym (value_is x))

-- ---- from 1 up, and finite

fields_scaled : (s : Bool) (e t : ℕ) → 127 ≤ e → e < 255 → HasValue (of_fields binary32 s e t) s ((8388608 + t) * 2 ^ (e - 127)) (2 ^ 23)
fields_scaled s zero t p q = absurd (omega arith)
fields_scaled s (suc j) t p q =
    lower (of_fields binary32 s (suc j) t) s ((8388608 + t) * 2 ^ (suc j - 127)) (2 ^ 23) (2 ^ 126) (pow_pos 126)
    (subst (λ (n : ℕ). HasValue (of_fields binary32 s (suc j) t) s n (2 ^ 149))
    (ap (λ (n : ℕ). (8388608 + t) * 2 ^ n) (the j p) ∙ ap (λ (n : ℕ). (8388608 + t) * n) (pow-add 2 (suc j - 127) 126) ∙ sym (mul_assoc (8388608 + t) (2 ^ (suc j - 127)) (2 ^ 126)))
    (at_normal s j t q))
  where
    the : (i : ℕ) → 127 ≤ suc i → i ≡ suc i - 127 + 126
    the i h = omega arith

pub scaled_value : (x : ℕ) → 127 ≤ field x → field x < 255 → HasValue (value x) (sign x) (scaled x) (2 ^ 23)
scaled_value x p q = subst (λ (v : Float). HasValue v (sign x) (scaled x) (2 ^ 23)) (sym (value_is x)) (fields_scaled (sign x) (field x) (x % 8388608) p q)

-- ---- the range between

zero_minus : (n : ℕ) → pos 0 -ℤ pos n ≡ neg_ℤ (pos n)
zero_minus zero = refl
zero_minus (suc n) =
    ap (λ (b : Bool). cond b (negsuc (suc n - 1)) (pos (0 - suc n))) (lt-ltb 0 (suc n) (omega arith)) ∙ ap negsuc (the n)
  where
    the : (i : ℕ) → suc i - 1 ≡ i
    the i = omega arith

neg_fits : (n : ℕ) → n < 2147483648 → SFits w32 (neg_ℤ (pos n))
neg_fits zero h = record { sfits = h }
neg_fits (suc n) h = record { sfits = omega arith }

module _ (x : ℕ) (p : 127 ≤ field x) (q : field x < 158) where
  room : scaled x < 2 ^ 54
  room = lt_of_lt_of_le (shl_lt 24 (field x - 127) (digits_lt x)) (pow_mono (the (field x) q))
    where
      the : (i : ℕ) → i < 158 → 24 + (i - 127) ≤ 54
      the i h = omega arith

  -- d is the digits with their leading one, moved up in 64 bits
  pub moved_up : (d : ℕ) → d ≡ 8388608 + x % 8388608 → d * 2 ^ (field x - 127) % 18446744073709551616 ≡ scaled x
  moved_up d e =
      ap (λ (k : ℕ). k * 2 ^ (field x - 127) % 18446744073709551616) e
      ∙ mod-eq_of_lt (lt_of_lt_of_le room (lit≤ tt))

  -- r is what `scaled_up` gives
  module _ (r : ℕ) (g : r ≡ scaled x) where
    abbrev n : ℕ
    n = r / 8388608

    pub n_lt : n < 2147483648
    n_lt = shr_lt 31 23 (subst (λ (i : ℕ). i < 2 ^ 54) (sym g) room)

    is : whole x ≡ cond (sign x) (neg_ℤ (pos n)) (pos n)
    is =
        signed_of (value x) (sign x) r 8388608 (pow_pos 23) (subst (λ (i : ℕ). HasValue (value x) (sign x) i 8388608) (sym g) (scaled_value x p (omega arith)))
        ∙ ap (λ (i : ℕ). cond (sign x) (neg_ℤ (pos i)) (pos (min n 2147483647))) (the n n_lt).0
        ∙ ap (λ (i : ℕ). cond (sign x) (neg_ℤ (pos n)) (pos i)) (the n n_lt).1
      where
        the : (i : ℕ) → i < 2147483648 → (min i 2147483648 ≡ i) × (min i 2147483647 ≡ i)
        the i h = (omega arith, omega arith)

    -- 0 - n, as the machine works it out
    minus_is : pos 0 -ℤ to_z w32 n ≡ neg_ℤ (pos n)
    minus_is = ap (λ (z : ℤ). pos 0 -ℤ z) (to_z_pos w32 n n_lt) ∙ zero_minus n

    pub minus_fits : SFits w32 (pos 0 -ℤ to_z w32 n)
    minus_fits = subst (λ (z : ℤ). SFits w32 z) (sym minus_is) (neg_fits n n_lt)

    pub below : sign x ≡ true → to_z w32 (of_z w32 (pos 0 -ℤ to_z w32 n)) ≡ whole x
    below s = to_z-of_z w32 (pos 0 -ℤ to_z w32 n) minus_fits ∙ minus_is ∙ sym (is ∙ ap (λ (b : Bool). cond b (neg_ℤ (pos n)) (pos n)) s)

    pub above : sign x ≡ false → to_z w32 n ≡ whole x
    above s = to_z_pos w32 n n_lt ∙ sym (is ∙ ap (λ (b : Bool). cond b (neg_ℤ (pos n)) (pos n)) s)
