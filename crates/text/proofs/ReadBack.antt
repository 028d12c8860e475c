-- READING BACK: a number, a signed number, a cell and an outcome's word can be worked out from their texts, and texts from a line in which bytes that they
-- don't have stand between them.
use Rattle.std.specs.Prelude.{ℕ, zero, suc, ◌+◌, ◌*◌, ◌-◌, ◌/◌, ◌%◌, ◌^◌, ◌≤◌, ◌<◌, ◌≡◌, refl, List, [], ◌∷◌, ◌++◌, Bool, true, false, cond, ◌&&◌, ltb, ℤ, pos, negsuc}
use Rattle.std.proofs.Common.{ap, ◌∙◌, pow-suc, arith, lt-ltb, le-ltb, ltb-true, ltb-false, eq-eqb, ne_eqb}
use Rattle.definition.specs.declared.RunAnswer.{RunAnswer}
use Rattle.definition.specs.Answers.{outcome_word, outcome_detail, Word, letters, ended, spent, completed_word, refused_word, builtin, opcode}
use Rattle.text.specs.Text.{decimal, signed_decimal, hex_digit, hex_digits, hex8, show_line}
use Rattle.text.specs.Laws.{decimal_ind}
use Rattle.text.specs.ReadBack.{digit_value, number_from, number, signed_number, Above, none, more, word_of, up_to, past, read_line}

-- ---- numbers

number_last : (base so_far : ℕ) (xs : List ℕ) (y : ℕ) → number_from base so_far (xs ++ y ∷ []) ≡ number_from base so_far xs * base + digit_value y
number_last base so_far [] y = refl
number_last base so_far (x ∷ xs) y = number_last base (so_far * base + digit_value x) xs y

decimal_digit : (d : ℕ) → d < 10 → digit_value (48 + d) ≡ d
decimal_digit d h = rw (lt-ltb (48 + d) 58 (omega arith)) (omega arith)

hex_digit_law : (d : ℕ) → d < 16 → digit_value (hex_digit d) ≡ d
unfolding hex_digit
hex_digit_law d h = go (ltb d 10) refl
  where
    go : (t : Bool) → ltb d 10 ≡ t → digit_value (cond (ltb d 10) (48 + d) (97 + (d - 10))) ≡ d
    go true e = rw e (decimal_digit d (ltb-true d 10 e))
    go false e = rw (e, le-ltb (97 + (d - 10)) 58 (omega arith)) (omega (arith, ltb-false d 10 e))

pub decimal_back : (n : ℕ) → number 10 (decimal n) ≡ n
decimal_back =
    decimal_ind (λ n xs. number 10 xs ≡ n)
    (λ n h. rw (decimal_digit n h) (omega arith))
    (λ n tenth h t. rw (number_last 10 0 tenth, t, decimal_digit (n % 10) (omega arith)) (omega arith))

pub hex_back : (k n : ℕ) → n < 16 ^ k → number 16 (hex_digits k n) ≡ n
unfolding hex_digits
hex_back zero n h = omega arith
hex_back (suc k) n h =
    let s : n / 16 < 16 ^ k = omega (arith, pow-suc 16 k) in
    rw (number_last 16 0 (hex_digits k (n / 16)), hex_back k (n / 16) s, hex_digit_law (n % 16) (omega arith)) (omega arith)

pub hex8_back : (n : ℕ) → n < 2 ^ 32 → number 16 (hex8 n) ≡ n
unfolding hex8
hex8_back n h = hex_back 8 n h

-- ---- what stands between texts

pub above_both : {c : ℕ} {xs ys : List ℕ} → Above c xs → Above c ys → Above c (xs ++ ys)
above_both none k = k
above_both (more h hs) k = more h (above_both hs k)

pub above_less : {c d : ℕ} {xs : List ℕ} → d ≤ c → Above c xs → Above d xs
above_less l none = none
above_less {c} {d} l (more {x = x} h hs) = let k : d < x = omega arith in more k (above_less l hs)

pub decimal_above : (n : ℕ) → Above 47 (decimal n)
decimal_above = decimal_ind (λ n xs. Above 47 xs) (λ n h. more (omega arith) none) (λ n tenth h t. above_both t (more (omega arith) none))

hex_digit_above : (d : ℕ) → 47 < hex_digit d
unfolding hex_digit
hex_digit_above d = go (ltb d 10)
  where
    go : (t : Bool) → 47 < cond t (48 + d) (97 + (d - 10))
    go true = omega arith
    go false = omega arith

hex_above : (k n : ℕ) → Above 47 (hex_digits k n)
unfolding hex_digits
hex_above zero n = none
hex_above (suc k) n = above_both (hex_above k (n / 16)) (more (hex_digit_above (n % 16)) none)

pub hex8_above : (n : ℕ) → Above 47 (hex8 n)
unfolding hex8
hex8_above n = hex_above 8 n

pub signed_above : (z : ℤ) → Above 44 (signed_decimal z)
unfolding signed_decimal
signed_above (pos n) = above_less (omega arith) (decimal_above n)
signed_above (negsuc n) = more {x = 45} (omega arith) (above_less (omega arith) (decimal_above (suc n)))

pub signed_back : (z : ℤ) → signed_number (signed_decimal z) ≡ z
unfolding signed_decimal
signed_back (negsuc n) = rw (decimal_back (suc n))
signed_back (pos n) = go (decimal n) (decimal_above n) ∙ ap pos (decimal_back n)
  where
    go : (xs : List ℕ) → Above 47 xs → signed_number xs ≡ pos (number 10 xs)
    go [] h = refl
    go (x ∷ xs) (more h hs) = rw (ne_eqb x 45 (λ e. omega arith))

-- ---- words

pub word_back : (w : Word) → word_of (letters w) ≡ w
word_back ended = refl
word_back spent = refl
word_back completed_word = refl
word_back refused_word = refl
word_back builtin = refl
word_back opcode = refl

abbrev all_above : ℕ → List ℕ → Bool
all_above c [] = true
all_above c (x ∷ xs) = ltb c x && all_above c xs

pub tested : (c : ℕ) (xs : List ℕ) → all_above c xs ≡ true → Above c xs
tested c [] e = none
tested c (x ∷ xs) e = go (ltb c x) refl e (λ e. tested c xs e)
  where
    go : (t : Bool) → ltb c x ≡ t → (t && all_above c xs) ≡ true → (all_above c xs ≡ true → Above c xs) → Above c (x ∷ xs)
    go true h e rest = more (ltb-true c x h) (rest e)
    go false h e rest = let z : ◌≡◌ {A = ℕ} 0 1 = cc in absurd (omega arith)

pub word_above : (w : Word) → Above 44 (letters w)
word_above ended = tested 44 _ refl
word_above spent = tested 44 _ refl
word_above completed_word = tested 44 _ refl
word_above refused_word = tested 44 _ refl
word_above builtin = tested 44 _ refl
word_above opcode = tested 44 _ refl

-- ---- a text up to a byte, and what stands past that byte

pub up_to_back : {c : ℕ} {xs : List ℕ} → Above c xs → (s : List ℕ) → up_to c (xs ++ c ∷ s) ≡ xs
up_to_back {c} none s = rw (eq-eqb c c refl)
up_to_back {c} (more {x = x} h hs) s = rw (ne_eqb x c (λ e. omega arith), up_to_back hs s)

pub past_back : {c : ℕ} {xs : List ℕ} → Above c xs → (s : List ℕ) → past c (xs ++ c ∷ s) ≡ s
past_back {c} none s = rw (eq-eqb c c refl)
past_back {c} (more {x = x} h hs) s = rw (ne_eqb x c (λ e. omega arith)) (past_back hs s)

-- ---- the show program's line

module _ (answer : RunAnswer) (count : ℕ) (position : ℤ) (function depth saved c1 c2 c3 : ℕ) where
  pub show_back : c1 < 2 ^ 32
      → c2 < 2 ^ 32
      → c3 < 2 ^ 32
      → read_line (show_line answer count position function depth saved c1 c2 c3)
      ≡ record {
        word = outcome_word answer;
        detail = outcome_detail answer;
        count = count;
        position = position;
        function = function;
        depth = depth;
        saved = saved;
        c1 = c1;
        c2 = c2;
        c3 = c3;
      }
  unfolding show_line
  show_back h1 h2 h3 =
      simp (
        past_back (word_above (outcome_word answer)),
        past_back (number_above (outcome_detail answer)),
        past_back (number_above count),
        past_back (signed_above position),
        past_back (number_above function),
        past_back (number_above depth),
        past_back (number_above saved),
        past_back (cell_above c1),
        past_back (cell_above c2),
        up_to_back (word_above (outcome_word answer)),
        up_to_back (number_above (outcome_detail answer)),
        up_to_back (number_above count),
        up_to_back (signed_above position),
        up_to_back (number_above function),
        up_to_back (number_above depth),
        up_to_back (number_above saved),
        up_to_back (cell_above c1),
        up_to_back (cell_above c2),
        up_to_back (end_above c3),
        word_back,
        decimal_back,
        signed_back,
        hex8_back c1 h1,
        hex8_back c2 h2,
        hex8_back c3 h3,
      )
    where
      number_above : (n : ℕ) → Above 44 (decimal n)
      number_above n = above_less (omega arith) (decimal_above n)

      cell_above : (n : ℕ) → Above 44 (hex8 n)
      cell_above n = above_less (omega arith) (hex8_above n)

      end_above : (n : ℕ) → Above 10 (hex8 n)
      end_above n = above_less (omega arith) (hex8_above n)
