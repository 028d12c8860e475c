-- THE INPUT of the load file program: a line with two decimal numbers, the seed and n, and a blank between them. What is no such line reads as two numbers 0, which
-- are refused 35, and so does each number that has more than 32 bits.
use Rattle.std.specs.Prelude.{ℕ, ◌+◌, ◌*◌, ◌-◌, List, [], ◌∷◌, Bool, cond, ◌&&◌, leb, ltb, eqb, length, get_or, drop}
use Rattle.definition.specs.File.{between}
use Rattle.load_file.specs.declared.numbers.Number.{Number}
use Rattle.load_file.specs.declared.numbers.Numbers.{Numbers}

-- 0 to 9
abbrev pub is_digit : ℕ → Bool
is_digit x = between 48 57 x

-- with one digit more, unless the number has more than 32 bits already
unfoldable pub with_digit : ℕ → ℕ → ℕ
with_digit v x = cond (ltb v 4294967296) (v * 10 + (x - 48)) v

unfoldable pub in32_bits : ℕ → ℕ
in32_bits v = cond (ltb v 4294967296) v 0

-- the number at the front of these bytes, after digits that make v, and the place behind its last digit; the first byte stands at the place `at`
unfoldable pub number_from : ℕ → ℕ → List ℕ → Number
number_from v at [] = record { value = in32_bits v; next = at }
number_from v at (x ∷ xs) = cond (is_digit x) (number_from (with_digit v x) (at + 1) xs) (record { value = in32_bits v; next = at })

abbrev pub blank : ℕ
blank = 32

abbrev pub line_end : ℕ
line_end = 10

-- the program reads no longer line
abbrev pub longest_line : ℕ
longest_line = 64

abbrev pub no_numbers : Numbers
no_numbers = record { seed = 0; n = 0 }

unfoldable pub numbers_of : List ℕ → Numbers
numbers_of line =
    let first = number_from 0 0 line in
    let from = first.next + 1 in
    let second = number_from 0 from (drop from line) in
    cond
    (leb (length line) longest_line
    && eqb (get_or line first.next 0) blank
    && eqb (get_or line second.next 0) line_end
    && eqb (second.next + 1) (length line))
    (record { seed = first.value; n = second.value })
    no_numbers
