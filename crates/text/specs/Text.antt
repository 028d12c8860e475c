-- TEXTS, as lists of ASCII codes. Document 01: "Numbers are decimal; cell contents are eight hexadecimal digits, highest first."
use Rattle.std.specs.Prelude.{ℕ, zero, suc, ◌+◌, ◌-◌, ◌/◌, ◌%◌, List, [], ◌∷◌, ◌++◌, cond, ltb, ℤ, pos, negsuc}
use Prim.Native.Char.{code}
use Prim.Native.String.{String, [] as none, ◌∷◌ as ◌then◌}
use Rattle.definition.specs.declared.RunAnswer.{RunAnswer}
use Rattle.text.specs.declared.Line.{Line}
use Rattle.definition.specs.Answers.{letters, refused_word, outcome_word, outcome_detail}

-- a text as it stands in quotation marks
abbrev pub ascii : String → List ℕ
ascii none = []
ascii (c then cs) = code c ∷ ascii cs

abbrev pub newline : ℕ
newline = 10

abbrev pub comma : ℕ
comma = 44

abbrev pub minus : ℕ
minus = 45

-- ---- numbers, with 48 for the digit 0 and 97 for a

-- The digits of n, highest first and none leading, of which there are at most `most`. The longer text is bound by a `let`, since antt would compute it
-- for a last digit too, down to the end of `most`.
unfoldable pub decimal_digits : ℕ → ℕ → List ℕ
decimal_digits zero n = []
decimal_digits (suc most) n =
    let longer = decimal_digits most (n / 10) ++ (48 + n % 10) ∷ [] in
    cond (ltb n 10) ((48 + n) ∷ []) longer

-- n has at most n + 1 digits
unfoldable pub decimal : ℕ → List ℕ
decimal n = decimal_digits (suc n) n

unfoldable pub signed_decimal : ℤ → List ℕ
signed_decimal (pos n) = decimal n
signed_decimal (negsuc n) = minus ∷ decimal (suc n)

-- 0 to 9, then a to f
unfoldable pub hex_digit : ℕ → ℕ
hex_digit d = cond (ltb d 10) (48 + d) (97 + (d - 10))

-- the lowest k digits of n, highest first
unfoldable pub hex_digits : ℕ → ℕ → List ℕ
hex_digits zero n = []
hex_digits (suc k) n = hex_digits k (n / 16) ++ hex_digit (n % 16) ∷ []

unfoldable pub hex8 : ℕ → List ℕ
hex8 n = hex_digits 8 n

-- ---- lines

-- fields, each after a comma, and the end of the line
abbrev pub further_fields : List (List ℕ) → List ℕ
further_fields [] = newline ∷ []
further_fields (x ∷ xs) = (comma ∷ x) ++ further_fields xs

-- "prints one line: outcome (ended, spent, refused, builtin or opcode), detail (a number, else 0), statements, position, function, depth, saved,
-- cells 1 to 3"
unfoldable pub show_line : RunAnswer → ℕ → ℤ → ℕ → ℕ → ℕ → ℕ → ℕ → ℕ → List ℕ
show_line answer count position function depth saved c1 c2 c3 =
    letters (outcome_word answer)
    ++ further_fields
    (decimal (outcome_detail answer)
    ∷ decimal count
    ∷ signed_decimal position
    ∷ decimal function
    ∷ decimal depth
    ∷ decimal saved
    ∷ hex8 c1
    ∷ hex8 c2
    ∷ hex8 c3
    ∷ [])

abbrev pub line_text : Line → List ℕ
line_text l =
    show_line l.answer l.count l.pc l.function l.depth l.saved l.c1 l.c2 l.c3

-- "A refused load prints the first two fields only"
unfoldable pub refused_line : ℕ → List ℕ
refused_line n = letters refused_word ++ further_fields (decimal n ∷ [])
