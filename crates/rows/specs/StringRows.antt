-- TEXTS OF STRINGS, document 02's R-4: worked cases, as rows of one table that is computed from the definition. Each row starts from the bytes of a file with
-- 64 cells, enters function 1 and completes its first statement.
use Rattle.std.specs.Prelude.{ℕ, List, [], ◌∷◌, ◌++◌, pos, set, T}
use Rattle.definition.specs.declared.Statement.{Statement}
use Rattle.definition.specs.declared.Definition.{Definition}
use Rattle.definition.specs.Checks.{Checked, refused, accepted}
use Rattle.definition.specs.File.{Contents}
use Rattle.definition.specs.Cells.{string, float, entity}
use Rattle.definition.specs.Strings.{up_to_zero, same_text, text_access}
use Rattle.definition.specs.Statements.{Does, next, puts, calls, returns, refuses, hands_over, strings_effect, negates_s_effect, does_at}
use Rattle.definition.specs.Starred.{op, fn, define, plain, numbers, Seen, Scenario, ◌and◌, state, cells, enter, complete, from}
use Rattle.definition.specs.Starred.{Row, row, all, computing}

-- ---- the strings and the program

-- r e d 0, r e d 0, r e d d e r 0, e9 0, 69 0, and r e d, which the end of the strings ends: 22 bytes. 69 is e9 without its highest bit
abbrev teams : List ℕ
teams =
    (114 ∷ 101 ∷ 100 ∷ 0 ∷ [])
    ++ (114 ∷ 101 ∷ 100 ∷ 0 ∷ [])
    ++ (114 ∷ 101 ∷ 100 ∷ 100 ∷ 101 ∷ 114 ∷ 0 ∷ [])
    ++ (0xe9 ∷ 0 ∷ 0x69 ∷ 0 ∷ [])
    ++ (114 ∷ 101 ∷ 100 ∷ [])

abbrev over : List ℕ → List Definition → Statement → List ℕ → Contents
over strings definitions st cells =
    record {
      statements = op 0 0 0 0 ∷ st ∷ [];
      globaldefs = definitions;
      fielddefs = [];
      functions = fn 0 0 0 0 [] ∷ plain ∷ [];
      strings = strings;
      globals = cells;
      entityfields = 105;
    }

-- x in cell 28, y in cell 29; every other cell has its own number in it
abbrev contents : List ℕ → List Definition → Statement → ℕ → ℕ → Contents
contents strings definitions st x y = over strings definitions st (set (set (numbers 64 0) 28 x) 29 y)

-- all bytes but 0, once each, and one more, which a zero byte ends: 257 bytes
abbrev all_bytes : ℕ → List ℕ
all_bytes last = numbers 255 1 ++ (last ∷ 0 ∷ [])

-- what stands in cell 30 after the statement
abbrev after : List ℕ → List Definition → Statement → ℕ → ℕ → Seen
after strings definitions st x y = from (contents strings definitions st x y) (enter 1 (complete (cells 1 30)))

abbrev equal : ℕ → ℕ → Seen
equal x y = after teams [] (op 12 28 29 30) x y

abbrev unequal : ℕ → ℕ → Seen
unequal x y = after teams [] (op 17 28 29 30) x y

abbrev no : ℕ → Seen
no x = after teams [] (op 46 28 0 30) x 29

-- with x in cell 0 and y in cell 28
abbrev with_zero : Statement → ℕ → ℕ → Seen
with_zero st x y = from (over teams [] st (set (set (numbers 64 0) 0 x) 28 y)) (enter 1 (complete (cells 1 30)))

abbrev one : Seen
one = accepted (0x3f800000 ∷ [])

abbrev zero' : Seen
zero' = accepted (0 ∷ [])

-- ---- "compare bytes up to a zero byte or the end of the strings"

abbrev comparisons : List Row
comparisons =
    row "the same team name at two places" (equal 0 4) one
    ∷ row "NeS" (unequal 0 4) zero'
    ∷ row "equal numbers" (equal 4 4) one
    ∷ row "a text and a longer one" (equal 0 8) zero'
    ∷ row "NeS" (unequal 0 8) one
    ∷ row "a longer one first" (equal 8 4) zero'
    ∷ row "from the middle of each" (equal 1 5) one
    ∷ row "a text and its own end" (equal 0 1) zero'
    ∷ row "one inside another, which goes on" (equal 5 9) zero'
    ∷ row "to the end of the strings" (equal 0 19) one
    ∷ row "from there" (equal 19 4) one
    ∷ row "NeS, to the end of the strings" (unequal 19 0) zero'
    ∷ row "the end is no letter" (equal 19 8) zero'
    ∷ row "the last byte" (equal 21 6) one
    ∷ row "the last byte, the second" (equal 10 21) zero'
    ∷ row "bytes over 127" (equal 15 17) zero'
    ∷ row "NeS of bytes over 127" (unequal 15 17) one
    ∷ row "a byte over 127 and an empty text" (equal 15 16) zero'
    ∷ row "two empty texts" (equal 3 7) one
    ∷ row "an empty text and another" (equal 3 0) zero'
    ∷ row "number 0 is compared by its text" (equal 0 3) zero'
    ∷ row "the first byte differs" (equal 0 5) zero'
    ∷ row "both end with the strings" (equal 20 20) one
    ∷ row "what stands behind the zero byte isn't compared" (after (114 ∷ 0 ∷ 1 ∷ 114 ∷ 0 ∷ 2 ∷ []) [] (op 12 28 29 30) 0 3) one
    ∷ row "a capital letter is another" (after (114 ∷ 0 ∷ 82 ∷ 0 ∷ []) [] (op 12 28 29 30) 0 2) zero'
    ∷ row "a capital letter first" (after (114 ∷ 0 ∷ 82 ∷ 0 ∷ []) [] (op 12 28 29 30) 2 0) zero'
    ∷ row "only a zero byte ends a text" (after (all_bytes 1 ++ all_bytes 2) [] (op 12 28 29 30) 0 257) zero'
    ∷ row "a long text at a number over 255" (after (all_bytes 1 ++ all_bytes 1) [] (op 12 28 29 30) 0 257) one
    ∷ row "operand 0 has the text of its number" (with_zero (op 12 0 28 30) 4 0) one
    ∷ row "and another text" (with_zero (op 12 0 28 30) 4 3) zero'
    ∷ row "the second operand 0" (with_zero (op 12 28 0 30) 4 0) one
    ∷ row "and another text" (with_zero (op 12 28 0 30) 4 3) zero'
    ∷ row "a single zero byte" (after (0 ∷ []) [] (op 12 28 29 30) 0 0) one
    ∷ row "one completed statement, and no other cell"
    (from (contents teams [] (op 12 28 29 30) 0 4) (enter 1 (complete (state and cells 4 28)))) (accepted (2 ∷ 1 ∷ 1 ∷ 0 ∷ 0 ∷ 4 ∷ 0x3f800000 ∷ 31 ∷ []))
    ∷ []

-- ---- "NotS is 1.0 for string number 0 and for an empty string, and still for operand 0"

abbrev nots : List Row
nots =
    row "number 0, whose text isn't empty" (no 0) one
    ∷ row "an empty text" (no 3) one
    ∷ row "another empty text" (no 16) one
    ∷ row "a text" (no 4) zero'
    ∷ row "a byte over 127" (no 15) zero'
    ∷ row "the last byte" (no 21) zero'
    ∷ row "the last byte, a zero byte" (after (114 ∷ 0 ∷ []) [] (op 46 28 0 30) 1 29) one
    ∷ row "operand 0, whose number has a text" (with_zero (op 46 0 0 30) 4 4) one
    ∷ row "operand 1, whose number has a text" (after teams [] (op 46 1 0 30) 0 0) zero'
    ∷ row "33: operand 0, whose number is out of range" (with_zero (op 46 0 0 30) 22 0) (refused 33)
    ∷ []

-- ---- "a string number below 0 or not below the string length is refused 33, in each access after type and address"

abbrev refusals : List Row
refusals =
    row "33: the first is the string length" (equal 22 4) (refused 33)
    ∷ row "33: the second is" (equal 4 22) (refused 33)
    ∷ row "33: NeS" (unequal 22 22) (refused 33)
    ∷ row "33: below 0" (equal 0x80000000 0) (refused 33)
    ∷ row "33: the second below 0" (equal 0 0xffffffff) (refused 33)
    ∷ row "33: not below the string length, though the file is longer" (equal 60 0) (refused 33)
    ∷ row "33: NotS" (no 22) (refused 33)
    ∷ row "33: NotS below 0" (no 0x80000000) (refused 33)
    ∷ row "33: one byte of strings" (after (0 ∷ []) [] (op 12 28 29 30) 0 1) (refused 33)
    ∷ row "33: operand 0 of EqS" (with_zero (op 12 0 28 30) 22 0) (refused 33)
    ∷ row "33: the second operand 0 of EqS" (with_zero (op 12 28 0 30) 22 0) (refused 33)
    ∷ row "StoreS asks for no text" (after teams [] (op 33 28 30 0) 22 0) (accepted (22 ∷ []))
    ∷ []

-- each two neighbours in the order of checks
abbrev order : List Row
order =
    row "15, negative first, before 15 of the second" (after teams [] (op 12 0xffff 66 30) 0 4) (refused 15)
    ∷ row "15, negative second, before 16 of the first" (after teams (define float 28 ∷ []) (op 12 28 0xffff 30) 0 4) (refused 15)
    ∷ row "15, negative second, before 33 of the first" (after teams [] (op 12 28 0xffff 30) 22 4) (refused 15)
    ∷ row "16 of the first before its 33" (after teams (define float 28 ∷ []) (op 12 28 29 30) 22 4) (refused 16)
    ∷ row "16 of the first before its 15" (after teams (define float 66 ∷ []) (op 12 66 29 30) 0 4) (refused 16)
    ∷ row "15 of the first before 16 of the second" (after teams (define float 29 ∷ []) (op 12 66 29 30) 0 4) (refused 15)
    ∷ row "33 of the first before 16 of the second" (after teams (define float 29 ∷ []) (op 12 28 29 30) 22 4) (refused 33)
    ∷ row "33 of the first before 15 of the second" (after teams [] (op 12 28 66 30) 22 4) (refused 33)
    ∷ row "16 of the second before its 33" (after teams (define entity 29 ∷ []) (op 17 28 29 30) 0 22) (refused 16)
    ∷ row "15 of the second before 16 of the destination" (after teams (define entity 30 ∷ []) (op 17 28 66 30) 0 4) (refused 15)
    ∷ row "33 of the second before 16 of the destination" (after teams (define string 30 ∷ []) (op 12 28 29 30) 0 22) (refused 33)
    ∷ row "33 of the second before 15 of the destination" (after teams [] (op 12 28 29 66) 0 22) (refused 33)
    ∷ row "16 of the destination" (after teams (define string 30 ∷ []) (op 12 28 29 30) 0 4) (refused 16)
    ∷ row "15 of the destination" (after teams [] (op 12 28 29 66) 0 4) (refused 15)
    ∷ row "18 before a negative operand: NotS" (after teams [] (op 46 0xffff 1 30) 0 4) (refused 18)
    ∷ row "15, negative, before 16 of the destination: NotS" (after teams (define string 30 ∷ []) (op 46 0xffff 0 30) 0 4) (refused 15)
    ∷ row "16 before 33: NotS" (after teams (define float 28 ∷ []) (op 46 28 0 30) 22 4) (refused 16)
    ∷ row "15 before 16 of the destination: NotS" (after teams (define string 30 ∷ []) (op 46 66 0 30) 0 4) (refused 15)
    ∷ row "33 before 16 of the destination: NotS" (after teams (define string 30 ∷ []) (op 46 28 0 30) 22 4) (refused 33)
    ∷ row "33 before 15 of the destination: NotS" (after teams [] (op 46 28 0 66) 22 4) (refused 33)
    ∷ row "16 of the destination: NotS" (after teams (define string 30 ∷ []) (op 46 28 0 30) 4 4) (refused 16)
    ∷ row "18 before 33: NotS" (after teams [] (op 46 28 1 30) 22 4) (refused 18)
    ∷ row "18 before 33 of operand 0: NotS" (with_zero (op 46 0 1 30) 22 0) (refused 18)
    ∷ []

-- "Equal operands of EqS and NeS are still answered unread"
abbrev unread : List Row
unread =
    row "a number out of range" (after teams [] (op 12 28 28 30) 22 4) one
    ∷ row "NeS" (after teams [] (op 17 28 28 30) 0xffffffff 4) zero'
    ∷ row "of another type" (after teams (define float 28 ∷ []) (op 12 28 28 30) 0 4) one
    ∷ row "no cell" (after teams [] (op 12 100 100 30) 0 4) one
    ∷ row "15: negative" (after teams [] (op 12 0xffff 0xffff 30) 0 4) (refused 15)
    ∷ row "16 of the destination" (after teams (define string 30 ∷ []) (op 12 28 28 30) 22 4) (refused 16)
    ∷ row "15 of the destination" (after teams [] (op 17 28 28 66) 22 4) (refused 15)
    ∷ []

-- ---- a file without strings has no functions either, so its statements are taken by themselves

abbrev number : Does → Seen
number (next p cells) = accepted []
number (puts p entities) = accepted []
number (calls f) = accepted []
number (returns a) = accepted []
number (refuses n) = refused n
number (hands_over h) = accepted []

abbrev bare : Statement → Seen
bare st = let k = contents [] [] st 0 0 in number (does_at k (pos 1) (record { count = 0; cells = [] }) k.globals)

abbrev no_strings : List Row
no_strings =
    row "33: number 0, EqS" (bare (op 12 28 29 30)) (refused 33)
    ∷ row "33: number 0, NotS" (bare (op 46 28 0 30)) (refused 33)
    ∷ row "33: number 0 of operand 0, NotS" (bare (op 46 0 0 30)) (refused 33)
    ∷ row "15 before 33, EqS" (bare (op 12 66 29 30)) (refused 15)
    ∷ row "15 before 33, NotS" (bare (op 46 66 0 30)) (refused 15)
    ∷ row "equal operands are answered unread" (bare (op 17 28 28 30)) (accepted [])
    ∷ []

pub comparisons_hold : T (all comparisons)
unfolding computing strings_effect negates_s_effect up_to_zero same_text text_access
comparisons_hold = tt

pub refusals_hold : T (all (nots ++ refusals ++ no_strings))
unfolding computing strings_effect negates_s_effect up_to_zero same_text text_access
refusals_hold = tt

pub order_holds : T (all (order ++ unread))
unfolding computing strings_effect negates_s_effect up_to_zero same_text text_access
order_holds = tt
