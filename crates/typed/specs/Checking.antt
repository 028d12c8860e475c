-- THE NUMBER OF THE FIRST REFUSAL, for the code that checks one access after the other; 0 where nothing refuses.
use Rattle.std.specs.Prelude.{ℕ, ◌+◌, ◌<◌, List, [], ◌∷◌, Bool, cond, eqb, ltb}
use Rattle.definition.specs.Checks.{Conditions, ◌otherwise◌, judge}
use Rattle.definition.specs.Cells.{Typing, float, vector, type_is, access, read_access}
use Rattle.definition.specs.Statements.{component}

unfoldable pub first : ℕ → ℕ → ℕ
first r s = cond (eqb r 0) s r

-- an access of one cell, of the cells or of an entity's: n is the number for a cell that isn't below the count
unfoldable pub one_access : ℕ → Typing → ℕ → ℕ → Conditions
one_access n g want cell = (type_is g want cell otherwise 16) ∷ (ltb cell g.count otherwise n) ∷ []

-- an access of each cell of a value of that type
unfoldable pub each_refusal : ℕ → Typing → ℕ → ℕ → ℕ
each_refusal n g want cell =
    cond (eqb want vector)
    (first (judge (one_access n g float cell)) (first (judge (one_access n g float (cell + 1))) (judge (one_access n g float (cell + 2)))))
    (judge (one_access n g want cell))

-- three typed accesses
abbrev pub three_refusal : Typing → ℕ → ℕ → ℕ → ℕ → ℕ → ℕ → ℕ
three_refusal g ta a tb b tc c = first (judge (access g ta a)) (first (judge (access g tb b)) (judge (access g tc c)))

-- a read of a value, then an access of the cell that is written
abbrev pub move_refusal : Typing → Bool → ℕ → ℕ → ℕ → ℕ → List ℕ → ℕ
move_refusal g natural ta a tb b cells = first (judge (read_access g natural ta a cells)) (judge (access g tb b))

-- the components of an operand of a type stand below n
pub record Reaches (t cell n : ℕ) : Type 0 where
  pub first_below : cell < n
  pub second_below : component t cell 1 < n
  pub third_below : component t cell 2 < n
