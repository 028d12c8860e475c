-- STRINGS. Document 02, R-4: the text of a string number, and when two texts are the same.
use Rattle.std.specs.Prelude.{ℕ, List, [], ◌∷◌, ◌++◌, Bool, true, false, ◌&&◌, cond, length, get_or, drop, ltb, eqb}
use Rattle.definition.specs.Checks.{Conditions, ◌otherwise◌}
use Rattle.definition.specs.Cells.{string, Typing, access}

-- "bytes up to a zero byte or the end of the strings"
unfoldable pub up_to_zero : List ℕ → List ℕ
up_to_zero [] = []
up_to_zero (x ∷ xs) = cond (eqb x 0) [] (x ∷ up_to_zero xs)

-- the text of a string number
abbrev pub text_of : List ℕ → ℕ → List ℕ
text_of strings n = up_to_zero (drop n strings)

unfoldable pub same_text : List ℕ → List ℕ → Bool
same_text [] [] = true
same_text [] (y ∷ ys) = false
same_text (x ∷ xs) [] = false
same_text (x ∷ xs) (y ∷ ys) = eqb x y && same_text xs ys

-- "a string number below 0 or not below the string length is refused 33, in each access after type and address". A number below 0 is kept as its unsigned
-- bits, which are above the length of any file's strings
unfoldable pub text_access : Typing → List ℕ → ℕ → List ℕ → Conditions
text_access g strings cell cells = access g string cell ++ ((ltb (get_or cells cell 0) (length strings) otherwise 33) ∷ [])
