-- LAWS of the texts: how the digits of a number follow from those of its tenth or sixteenth, and how long a text can be.
use Rattle.std.specs.Prelude.{ℕ, zero, suc, ◌+◌, ◌-◌, ◌/◌, ◌%◌, ◌^◌, ◌≤◌, ◌<◌, ◌≡◌, refl, List, [], ◌∷◌, ◌++◌, Bool, true, false, ltb, ℤ, pos, negsuc, length}
use Rattle.std.proofs.Common.{suc-le-suc, pow-suc, lt_of_lt_of_le, arith, lt-ltb, le-ltb, ltb-true, ltb-false, lit≤, length-append}
use Rattle.std.proofs.Math.Numerals.{unary_clauses}
use Rattle.std.specs.Int.Signed.{mag}
use Rattle.definition.specs.declared.RunAnswer.{RunAnswer}
use Rattle.definition.specs.declared.RunAnswer.TheVariants as run
use Rattle.definition.specs.declared.Handover.TheVariants.{Builtin, Opcode}
use Rattle.definition.specs.Answers.{letters, outcome_word, outcome_detail}
use Rattle.text.specs.Text.{decimal_digits, decimal, signed_decimal, hex_digit, hex_digits, hex8, further_fields, show_line, refused_line}

-- ---- decimal, by the digits of the tenth

-- the digits of a number do not depend on the most that there may be, where that is enough
same_digits : (k m n : ℕ) → n < k → n < m → decimal_digits k n ≡ decimal_digits m n
unfolding decimal_digits
same_digits zero m n h h' = absurd (omega arith)
same_digits (suc k) zero n h h' = absurd (omega arith)
same_digits (suc k) (suc m) n h h' = go (ltb n 10) refl (λ h h'. same_digits k m (n / 10) h h')
  where
    go : (t : Bool)
        → ltb n 10 ≡ t
        → (n / 10 < k → n / 10 < m → decimal_digits k (n / 10) ≡ decimal_digits m (n / 10))
        → decimal_digits (suc k) n ≡ decimal_digits (suc m) n
    go true e tenth = rw e refl
    go false e tenth = rw (e, tenth (omega (arith, ltb-false n 10 e)) (omega (arith, ltb-false n 10 e)))

pub decimal_one : (n : ℕ) → n < 10 → decimal n ≡ (48 + n) ∷ []
unfolding decimal decimal_digits
decimal_one n h = rw (lt-ltb n 10 h)

pub decimal_more : (n : ℕ) → 10 ≤ n → decimal n ≡ decimal (n / 10) ++ (48 + n % 10) ∷ []
unfolding decimal decimal_digits
decimal_more n h = rw (le-ltb n 10 h, same_digits n (suc (n / 10)) (n / 10) (omega arith) (omega arith))

-- what holds of one digit, and of a number where it holds of its tenth, holds of every number
module _ (P : ℕ → List ℕ → Type 0)
    (one : (n : ℕ) → n < 10 → P n ((48 + n) ∷ []))
    (more : (n : ℕ) (tenth : List ℕ) → 10 ≤ n → P (n / 10) tenth → P n (tenth ++ (48 + n % 10) ∷ [])) where
  below : (k n : ℕ) → n < k → P n (decimal n)
  below zero n h = absurd (omega arith)
  below (suc k) n h = go (ltb n 10) refl (λ h. below k (n / 10) h)
    where
      go : (t : Bool) → ltb n 10 ≡ t → (n / 10 < k → P (n / 10) (decimal (n / 10))) → P n (decimal n)
      go true e tenth = let s : n < 10 = ltb-true n 10 e in rw (decimal_one n s) (one n s)
      go false e tenth = let s : 10 ≤ n = ltb-false n 10 e in rw (decimal_more n s) (more n _ s (tenth (omega arith)))

  pub decimal_ind : (n : ℕ) → P n (decimal n)
  decimal_ind n = below (suc n) n (omega arith)

-- ---- hexadecimal, by the digits of the sixteenth

pub hex_none : (k n : ℕ) → k ≡ 0 → hex_digits k n ≡ []
unfolding hex_digits
hex_none k n h = rw h

pub hex_more : (k n : ℕ) {d : ℕ} → (k ≡ 0 → ⊥) → d ≡ hex_digit (n % 16) → hex_digits k n ≡ hex_digits (k - 1) (n / 16) ++ d ∷ []
unfolding hex_digits
hex_more zero n h e = absurd (h refl)
hex_more (suc k) n h e = simp (e, unary_clauses)

-- ---- lengths

abbrev AtMost : ℕ → List ℕ → Type 0
AtMost n xs = (k : ℕ) → n < 10 ^ suc k → length xs ≤ suc k

pub decimal_length : (n : ℕ) → AtMost n (decimal n)
decimal_length = decimal_ind AtMost (λ n h k b. omega arith) more
  where
    more : (n : ℕ) (tenth : List ℕ) → 10 ≤ n → AtMost (n / 10) tenth → AtMost n (tenth ++ (48 + n % 10) ∷ [])
    more n tenth h t zero b = absurd (omega arith)
    more n tenth h t (suc k) b = simp length-append (omega (arith, t k (omega (arith, pow-suc 10 (suc k)))))

pub decimal_10 : {n : ℕ} → n < 2 ^ 32 → length (decimal n) ≤ 10
decimal_10 {n} h = decimal_length n 9 (lt_of_lt_of_le h (lit≤ tt))

pub decimal_20 : {n : ℕ} → n < 2 ^ 64 → length (decimal n) ≤ 20
decimal_20 {n} h = decimal_length n 19 (lt_of_lt_of_le h (lit≤ tt))

pub signed_20 : (z : ℤ) → mag z < 2 ^ 63 → length (signed_decimal z) ≤ 20
unfolding signed_decimal
signed_20 (pos n) h = decimal_20 (lt_of_lt_of_le h (lit≤ tt))
signed_20 (negsuc n) h = omega (arith, decimal_length (suc n) 18 (lt_of_lt_of_le (suc-le-suc h) (lit≤ tt)))

pub hex8_length : (n : ℕ) → length (hex8 n) ≡ 8
unfolding hex8 hex_digits
hex8_length n = refl

pub cells_28 : (c1 c2 c3 : ℕ) → length (further_fields (hex8 c1 ∷ hex8 c2 ∷ hex8 c3 ∷ [])) ≡ 28
cells_28 c1 c2 c3 = simp (length-append, hex8_length)

pub word_7 : (answer : RunAnswer) → length (letters (outcome_word answer)) ≤ 7
word_7 run.Ended = lit≤ tt
word_7 run.Spent = lit≤ tt
word_7 (run.Refused n) = lit≤ tt
word_7 (run.HandedOver (Builtin n)) = lit≤ tt
word_7 (run.HandedOver (Opcode n)) = lit≤ tt

pub show_length : (answer : RunAnswer) (count : ℕ) (position : ℤ) (function depth saved c1 c2 c3 : ℕ)
    → outcome_detail answer < 2 ^ 32
    → count < 2 ^ 32
    → mag position < 2 ^ 63
    → function < 2 ^ 64
    → depth < 2 ^ 64
    → saved < 2 ^ 64
    → length (show_line answer count position function depth saved c1 c2 c3) ≤ 141
unfolding show_line
show_length answer count position function depth saved c1 c2 c3 detail_fits count_fits position_fits function_fits depth_fits saved_fits =
    simp (length-append, hex8_length)
    (omega (
      arith,
      word_7 answer,
      decimal_10 detail_fits,
      decimal_10 count_fits,
      signed_20 position position_fits,
      decimal_20 function_fits,
      decimal_20 depth_fits,
      decimal_20 saved_fits,
    ))

pub refused_length : (n : ℕ) → n < 2 ^ 32 → length (refused_line n) ≤ 19
unfolding refused_line
refused_length n h = simp length-append (omega (arith, decimal_10 h))
