-- LAWS of a number that names one of so many, or none, whatever says so. Assumes nothing.
use Rattle.std.specs.Prelude.{ℕ, ◌≤◌, ◌<◌, ◌≡◌, Bool, true, false, cond, ltb}
use Rattle.std.proofs.Common.{sym, arith, ltb-true, ltb-false}

module _ {A : Type 0} (id : ℕ → A) (none : A) (same : (i j : ℕ) → id i ≡ id j → i ≡ j) (apart : (i : ℕ) → id i ≡ none → ⊥) (value count : ℕ) where
  pub found : (i : ℕ) (t : Bool) → ltb value count ≡ t → id i ≡ cond t (id value) none → (i ≡ value) × (i < count)
  found i true q e = let h : i ≡ value = same i value e in (h, rw h (ltb-true _ _ q))
  found i false q e = absurd (apart i e)

  pub missing : (t : Bool) → ltb value count ≡ t → none ≡ cond t (id value) none → count ≤ value
  missing true q e = absurd (apart value (sym e))
  missing false q e = ltb-false _ _ q

pub no_equation : ◌≡◌ {A = ℕ} 0 1 → ⊥
no_equation e = omega arith
