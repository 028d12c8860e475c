-- THE LINE OF ANY TWO NUMBERS is read as these: so every seed and every n can be asked for.
use Rattle.std.specs.Prelude.{ℕ, suc, ◌+◌, ◌/◌, ◌%◌, ◌≤◌, ◌<◌, ◌≡◌, true, false, length, get_or, drop, List, [], ◌∷◌, ◌++◌}
use Rattle.std.proofs.Math.Path.{refl}
use Rattle.std.proofs.Common.{◌∙◌, add-zero, arith, length-append, get_or-append-add, le-leb, lt-ltb, eq-eqb}
use Rattle.std.proofs.Math.Seq.{drop-append-add}
use Rattle.text.specs.Text.{decimal}
use Rattle.text.specs.Laws.{decimal_ind, decimal_10}
use Rattle.load_file.specs.Numbers.{is_digit, with_digit, in32_bits, number_from, numbers_of}

-- digits alone
abbrev Digits : List ℕ → Type 0
Digits [] = Unit {0}
Digits (x ∷ xs) = (is_digit x ≡ true) × Digits xs

-- the number that they make, after others that make v
abbrev made : ℕ → List ℕ → ℕ
made v [] = v
made v (x ∷ xs) = made (with_digit v x) xs

last_digit : (xs : List ℕ) (y : ℕ) → Digits xs → is_digit y ≡ true → Digits (xs ++ y ∷ [])
last_digit [] y h k = (k, tt)
last_digit (x ∷ xs) y h k = (h.0, last_digit xs y h.1 k)

made_last : (v : ℕ) (xs : List ℕ) (y : ℕ) → made v (xs ++ y ∷ []) ≡ with_digit (made v xs) y
made_last v [] y = refl
made_last v (x ∷ xs) y = made_last (with_digit v x) xs y

is_digit_law : (d : ℕ) → d < 10 → is_digit (48 + d) ≡ true
is_digit_law d h = rw (le-leb 48 (48 + d) (omega arith), le-leb (48 + d) 57 (omega arith)) refl

abbrev Reads : ℕ → List ℕ → Type 0
Reads n xs = Digits xs × (n < 4294967296 → made 0 xs ≡ n)

decimal_reads : (n : ℕ) → Reads n (decimal n)
unfolding with_digit
decimal_reads =
    decimal_ind Reads
    (λ n h. ((is_digit_law n h, tt), λ k. omega arith))
    (λ n tenth h t. (
      last_digit tenth (48 + n % 10) t.0 (is_digit_law (n % 10) (omega arith)),
      λ k. made_last 0 tenth (48 + n % 10) ∙ rw (t.1 (omega arith), lt-ltb (n / 10) 4294967296 (omega arith)) (omega arith),
    ))

-- digits are read up to what follows them
digits_read : (v at : ℕ) (xs ys : List ℕ) → Digits xs → number_from v at (xs ++ ys) ≡ number_from (made v xs) (at + length xs) ys
unfolding number_from
digits_read v at [] ys h = rw (add-zero at) refl
digits_read v at (x ∷ xs) ys h =
    let e : at + suc (length xs) ≡ at + 1 + length xs = omega arith in
    rw (h.0, e) (digits_read (with_digit v x) (at + 1) xs ys h.1)

module _ (n : ℕ) (small : n < 4294967296) (at c : ℕ) (other : is_digit c ≡ false) (ys : List ℕ) where
  number_read : number_from 0 at (decimal n ++ c ∷ ys) ≡ record { value = n; next = at + length (decimal n) }
  unfolding number_from in32_bits
  number_read = digits_read 0 at (decimal n) (c ∷ ys) (decimal_reads n).0 ∙ rw ((decimal_reads n).1 small, other, lt-ltb n 4294967296 small) refl

abbrev pub line_of : ℕ → ℕ → List ℕ
line_of seed n = decimal seed ++ 32 ∷ (decimal n ++ 10 ∷ [])

module _ (seed n : ℕ) (small_seed : seed < 4294967296) (small_n : n < 4294967296) where
  abbrev line : List ℕ
  line = line_of seed n

  abbrev a : ℕ
  a = length (decimal seed)

  abbrev b : ℕ
  b = length (decimal n)

  abbrev tail : List ℕ
  tail = decimal n ++ 10 ∷ []

  behind : drop (0 + a + 1) line ≡ tail
  behind = let e : 0 + a + 1 ≡ a + 1 = omega arith in rw e (drop-append-add (decimal seed) (32 ∷ tail) 1)

  at_blank : get_or line (0 + a) 0 ≡ 32
  at_blank = let e : 0 + a ≡ a + 0 = omega arith in rw e (get_or-append-add (decimal seed) (32 ∷ tail) 0 0)

  at_end : get_or line (0 + a + 1 + b) 0 ≡ 10
  at_end =
      let e : 0 + a + 1 + b ≡ a + suc (b + 0) = omega arith in
      rw e (get_or-append-add (decimal seed) (32 ∷ tail) (suc (b + 0)) 0 ∙ get_or-append-add (decimal n) (10 ∷ []) 0 0)

  whole : 0 + a + 1 + b + 1 ≡ length line
  whole = omega (arith, length-append (decimal seed) (32 ∷ tail), length-append (decimal n) (10 ∷ []))

  short : length line ≤ 64
  short = omega (arith, whole, decimal_10 small_seed, decimal_10 small_n)

  pub numbers_read : numbers_of (line_of seed n) ≡ record { seed = seed; n = n }
  unfolding numbers_of
  numbers_read =
      rw (
        number_read seed small_seed 0 32 refl tail,
        behind,
        number_read n small_n (0 + a + 1) 10 refl [],
        le-leb (length line) 64 short,
        at_blank,
        at_end,
        eq-eqb (0 + a + 1 + b + 1) (length line) whole,
      )
      refl

-- a seed of more than 32 bits, 4294967297, is none
over_32_bits : numbers_of (52 ∷ 50 ∷ 57 ∷ 52 ∷ 57 ∷ 54 ∷ 55 ∷ 50 ∷ 57 ∷ 55 ∷ 32 ∷ 55 ∷ 10 ∷ []) ≡ record { seed = 0; n = 7 }
unfolding numbers_of number_from with_digit in32_bits
over_32_bits = refl
