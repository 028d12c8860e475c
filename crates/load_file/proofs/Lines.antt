-- A line is read, by the tests that decide it. Assumes nothing.
use Rattle.std.proofs.Common.{◌≡◌, ℕ, ◌+◌, ◌≤◌, ◌<◌, List, length, get_or, drop, refl, le-leb, eq-eqb, ne_eqb}
use Rattle.std.proofs.lemmas.Bool.{lt-leb}
use Rattle.load_file.specs.declared.numbers.Number.{Number}
use Rattle.load_file.specs.Numbers.{number_from, no_numbers, numbers_of}

module _ (line : List ℕ) where
  pub too_long : 64 < length line → no_numbers ≡ numbers_of line
  unfolding numbers_of
  too_long h = rw (lt-leb (length line) 64 h) refl

  module _ (short : length line ≤ 64) (x : Number) (first : x ≡ number_from 0 0 line) where
    pub no_blank : (get_or line x.next 0 ≡ 32 → ⊥) → no_numbers ≡ numbers_of line
    unfolding numbers_of
    no_blank h = rw (le-leb (length line) 64 short, ← first, ne_eqb (get_or line x.next 0) 32 h) refl

    module _ (blank : get_or line x.next 0 ≡ 32) (y : Number) (second : y ≡ number_from 0 (x.next + 1) (drop (x.next + 1) line)) where
      pub no_end : (get_or line y.next 0 ≡ 10 → ⊥) → no_numbers ≡ numbers_of line
      unfolding numbers_of
      no_end h = rw (le-leb (length line) 64 short, ← first, eq-eqb (get_or line x.next 0) 32 blank, ← second, ne_eqb (get_or line y.next 0) 10 h) refl

      module _ (ended : get_or line y.next 0 ≡ 10) where
        pub goes_on : (y.next + 1 ≡ length line → ⊥) → no_numbers ≡ numbers_of line
        unfolding numbers_of
        goes_on h =
            rw (le-leb (length line) 64 short, ← first, eq-eqb (get_or line x.next 0) 32 blank, ← second, eq-eqb (get_or line y.next 0) 10 ended, ne_eqb (y.next + 1) (length line) h)
            refl

        pub both_read : y.next + 1 ≡ length line → record { seed = x.value; n = y.value } ≡ numbers_of line
        unfolding numbers_of
        both_read e =
            rw (le-leb (length line) 64 short, ← first, eq-eqb (get_or line x.next 0) 32 blank, ← second, eq-eqb (get_or line y.next 0) 10 ended, eq-eqb (y.next + 1) (length line) e)
            refl
