-- A number is read digit by digit. Assumes nothing.
use Rattle.std.proofs.Common.{◌≡◌, ℕ, ◌+◌, ◌<◌, ◌≤◌, ◌-◌, List, Bool, true, false, ltb, leb, length, get_or, take, drop, refl, arith, length-drop, get_or-drop, add-one, drop-cons, leb-true, ltb-true, ltb-false}
use Rattle.std.proofs.lemmas.List.{take_all}
use Rattle.std.proofs.Math.ListN.{drop_of_length-le, get_or-eq_default}
use Rattle.definition.proofs.CheckLaws.{and_left}
use Rattle.load_file.specs.Numbers.{is_digit, with_digit, in32_bits, number_from}

pub least_digit : (x : ℕ) → is_digit x ≡ true → 48 ≤ x
least_digit x h = leb-true 48 x (and_left (leb 48 x) (leb x 57) h)

-- a byte that isn't 0 stands before the end
pub inside : (line : List ℕ) (i : ℕ) → (get_or line i 0 ≡ 0 → ⊥) → i < length line
inside line i some = go (ltb i (length line)) refl
  where
    go : (t : Bool) → ltb i (length line) ≡ t → i < length line
    go true e = ltb-true i (length line) e
    go false e = absurd (some (get_or-eq_default line 0 (ltb-false i (length line) e)))

-- the rest of a line from a place on
module _ (line : List ℕ) (from : ℕ) where
  rest : take (length line - from) (drop from line) ≡ drop from line
  rest = take_all _ (drop from line) (omega (arith, length-drop from line))

  pub rest_length : length (take (length line - from) (drop from line)) ≡ length line - from
  rest_length = rw rest (length-drop from line)

  pub rest_byte : {i : ℕ} (k : ℕ) → i ≡ from + k → get_or (take (length line - from) (drop from line)) k 0 ≡ get_or line i 0
  rest_byte k e = rw (rest, e) (get_or-drop from line k 0)

module _ (line : List ℕ) (v i : ℕ) where
  pub one_digit : i < length line → is_digit (get_or line i 0) ≡ true
      → number_from (with_digit v (get_or line i 0)) (i + 1) (drop (i + 1) line) ≡ number_from v i (drop i line)
  unfolding number_from
  one_digit h d = rw (drop-cons line i 0 h, d, add-one i) refl

  pub no_digit : i < length line → is_digit (get_or line i 0) ≡ false → number_from v i (drop i line) ≡ record { value = in32_bits v; next = i }
  unfolding number_from
  no_digit h d = rw (drop-cons line i 0 h, d) refl

  pub all_read : length line ≤ i → number_from v i (drop i line) ≡ record { value = in32_bits v; next = i }
  unfolding number_from
  all_read h = rw (drop_of_length-le line {i = i} h) refl
