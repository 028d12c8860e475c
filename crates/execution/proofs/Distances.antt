-- The distance of a branch, by cases on its sign. (functions, Signs, has the like for `fetch::jump` and keeps it to itself.) Assumes nothing.
use Rattle.std.proofs.Common.{ℕ, suc, ◌-◌, ◌≤◌, ◌<◌, ◌≡◌, refl, Bool, true, false, cond, ltb, ltb-true, ltb-false, arith, lt-ltb, le-ltb, w64, to_z, of_z, FitsSigned}
use Rattle.std.specs.Prelude.{ℤ, pos, negsuc, ◌-ℤ◌, ◌+ℤ◌}
use Rattle.std.proofs.Math.IntN.{sub_ℕ}
use Rattle.std.proofs.Math.Facts.{to_z-of_z, to_z_pos}
use Rattle.std.specs.Int.Signed.{mag}
use Rattle.definition.specs.Cells.{signed}

pub low : (u : ℕ) → u < 32768 → pos u ≡ signed u
unfolding signed
low u h = rw (lt-ltb u 32768 h)

pub high : (u : ℕ) → 32768 ≤ u → u < 65536 → pos u -ℤ pos 65536 ≡ signed u
unfolding signed
high u h l = let e : 65536 - suc u ≡ 65535 - u = omega arith in rw (lt-ltb u 65536 l, le-ltb u 32768 h, e)

short : (u : ℕ) → u < 65536 → mag (signed u) < 32768
unfolding signed
short u h = by (ltb u 32768) refl
  where
    by : (t : Bool) → ltb u 32768 ≡ t → mag (cond t (pos u) (negsuc (65535 - u))) < 32768
    by true e = ltb-true u 32768 e
    by false e = let l : 32768 ≤ u = ltb-false u 32768 e in omega arith

pub fits : (u : ℕ) → u < 65536 → FitsSigned w64 (signed u)
fits u h = record { sfits = omega (arith, short u h) }

difference_fits : (a b : ℕ) → a < 2147483648 → b ≤ 65536 → FitsSigned w64 (sub_ℕ a b)
difference_fits a b h l = by (ltb a b)
  where
    by : (t : Bool) → FitsSigned w64 (cond t (negsuc (b - suc a)) (pos (a - b)))
    by true = record { sfits = omega arith }
    by false = record { sfits = omega arith }

jump_fits : (k : ℕ) (z : ℤ) → k < 2147483648 → mag z < 32768 → FitsSigned w64 (pos k +ℤ z)
jump_fits k (pos a) h l = record { sfits = omega arith }
jump_fits k (negsuc a) h l = difference_fits k (suc a) h (omega arith)

-- what the code adds is the index and the distance, and their sum fits
pub jumped : (k by : ℕ) (s : ℤ) → k < 2147483648 → by < 65536 → s ≡ signed by
    → (to_z w64 k +ℤ to_z w64 (of_z w64 s) ≡ pos k +ℤ signed by) × FitsSigned w64 (pos k +ℤ signed by)
jumped k by s h l e = (rw (to_z_pos w64 {n = k} (omega arith), e, to_z-of_z (fits by l)), jump_fits k (signed by) h (short by l))
