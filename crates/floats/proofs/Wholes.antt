-- The library's whole numbers of a float are the definition's. Assumes nothing.
use Rattle.std.proofs.Common.{◌≡◌, ℕ, zero, suc, ◌+◌, ◌-◌, ◌*◌, ◌/◌, ◌%◌, ◌<◌, ◌≤◌, Bool, true, false, cond, not, ◌&&◌, ltb, leb, refl, arith, lt-ltb, mod-lt, add-mul}
use Rattle.std.proofs.lemmas.Nat.{div-mul-add, div-add-mod'}
use borrow.Author.Tests.{leb-true, leb-false}
use Rattle.std.proofs.Math.Nat.{mul_left_comm}
use lib.Ieee.{Float, nan, inf, fin, binary32, up, down}
use lib.Ieee.Fits.{down_pos}
use Rattle.std.specs.Float.{round_with, ratio_floor, ratio_ceil, ratio_round_half_up, float_with_sign}
use Rattle.definition.specs.Floats.{rounded, absolute}

none_more : (n : ℕ) (b : Bool) → n + cond (b && false) 1 0 ≡ n
none_more n true = omega arith
none_more n false = omega arith

module _ (n d : ℕ) (some : 0 < d) where
  up_law : n / d + cond (ltb 0 (n % d) && true) 1 0 ≡ ratio_ceil n d
  up_law = go (n / d) (n % d) (div-add-mod' n d) (mod-lt n some)
    where
      go : (q r : ℕ) → q * d + r ≡ n → r < d → q + cond (ltb 0 r && true) 1 0 ≡ ratio_ceil n d
      go q zero e l = let s : n + d - 1 ≡ q * d + (d - 1) = omega arith in rw (s, div-mul-add q d (d - 1) (omega arith)) (omega arith)
      go q (suc k) e l = let s : n + d - 1 ≡ (q + 1) * d + k = omega (arith, add-mul q 1 d) in rw (s, div-mul-add (q + 1) d k (omega arith), lt-ltb 0 (suc k) (omega arith))

  half_law : n / d + cond (ltb 0 (n % d) && leb d (n % d * 2)) 1 0 ≡ ratio_round_half_up n d
  half_law = go (n / d) (n % d) (div-add-mod' n d) (mod-lt n some)
    where
      twice : (q : ℕ) → q * (2 * d) ≡ 2 * (q * d)
      twice q = mul_left_comm q 2 d

      below : (q r : ℕ) → q * d + r ≡ n → r * 2 < d → q ≡ ratio_round_half_up n d
      below q r e h = let s : 2 * n + d ≡ q * (2 * d) + (r * 2 + d) = omega (arith, twice q) in rw (s, div-mul-add q (2 * d) (r * 2 + d) (omega arith))

      above : (q r : ℕ) → q * d + r ≡ n → r < d → d ≤ r * 2 → q + 1 ≡ ratio_round_half_up n d
      above q r e l h =
          let s : 2 * n + d ≡ (q + 1) * (2 * d) + (r * 2 - d) = omega (arith, twice q, add-mul q 1 (2 * d)) in
          rw (s, div-mul-add (q + 1) (2 * d) (r * 2 - d) (omega arith))

      go : (q r : ℕ) → q * d + r ≡ n → r < d → q + cond (ltb 0 r && leb d (r * 2)) 1 0 ≡ ratio_round_half_up n d
      go q zero e l = omega (arith, below q zero e (omega arith))
      go q (suc k) e l = rw (lt-ltb 0 (suc k) (omega arith)) (by (leb d (suc k * 2)) refl)
        where
          by : (b : Bool) → leb d (suc k * 2) ≡ b → q + cond b 1 0 ≡ ratio_round_half_up n d
          by true h = above q (suc k) e l (leb-true d (suc k * 2) h)
          by false h = omega (arith, below q (suc k) e (leb-false d (suc k * 2) h))

pub floor_law : (v : Float) → round_with ratio_floor ratio_ceil binary32 v ≡ rounded (λ negative half. negative) v
unfolding round_with rounded
floor_law nan = refl
floor_law (inf s) = refl
floor_law (fin false m e) = rw (none_more (m * up e / down e) (ltb 0 (m * up e % down e)))
floor_law (fin true m e) = rw (up_law (m * up e) (down e) (down_pos e))

pub ceil_law : (v : Float) → round_with ratio_ceil ratio_floor binary32 v ≡ rounded (λ negative half. not negative) v
unfolding round_with rounded
ceil_law nan = refl
ceil_law (inf s) = refl
ceil_law (fin false m e) = rw (up_law (m * up e) (down e) (down_pos e))
ceil_law (fin true m e) = rw (none_more (m * up e / down e) (ltb 0 (m * up e % down e)))

pub rint_law : (v : Float) → round_with ratio_round_half_up ratio_round_half_up binary32 v ≡ rounded (λ negative half. half) v
unfolding round_with rounded
rint_law nan = refl
rint_law (inf s) = refl
rint_law (fin false m e) = rw (half_law (m * up e) (down e) (down_pos e))
rint_law (fin true m e) = rw (half_law (m * up e) (down e) (down_pos e))

pub fabs_law : (v : Float) → float_with_sign false v ≡ absolute v
unfolding float_with_sign absolute
fabs_law nan = refl
fabs_law (inf s) = refl
fabs_law (fin s m e) = refl
