-- Rounding by the builtin's number. Assumes nothing.
use Rattle.std.specs.Prelude.{◌≡◌, ℕ, Bool, true, false}
use Rattle.std.proofs.Math.Path.{refl}
use Rattle.std.proofs.Common.{sym, true≢false}
use Rattle.std.proofs.Math.Option.{Option, none, some, get_or}
use Rattle.definition.specs.Floats.{rounding_of}

-- ---- by number; 0 where it is none of the four

abbrev pub is_some : Option (ℕ → ℕ) → Bool
is_some none = false
is_some (some f) = true

abbrev pub is_rounding : ℕ → Bool
is_rounding n = is_some (rounding_of n)

unfoldable pub rounding_op : ℕ → ℕ → ℕ
rounding_op n = get_or (rounding_of n) (λ x. 0)

module _ (n : ℕ) where
  pub is_rounding_law : is_rounding n ≡ true → rounding_of n ≡ some (rounding_op n)
  unfolding rounding_op
  is_rounding_law h = go (rounding_of n) h
    where
      go : (o : Option (ℕ → ℕ)) → is_some o ≡ true → o ≡ some (get_or o (λ x. 0))
      go none h = absurd (true≢false (sym h))
      go (some f) h = refl

  pub no_rounding : is_rounding n ≡ false → rounding_of n ≡ none
  no_rounding h = go (rounding_of n) h
    where
      go : (o : Option (ℕ → ℕ)) → is_some o ≡ false → o ≡ none
      go none h = refl
      go (some f) h = absurd (true≢false h)
