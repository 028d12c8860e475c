-- WHAT THE STATEMENTS OVER FIELDS CHECK, part by part: the operands, then the field, then the value.
use Rattle.std.specs.Prelude.{ℕ, ◌+◌, ◌*◌, ◌/◌, ◌%◌, List, [], ◌∷◌, ◌++◌, not, true, ◌&&◌, get_or, leb, ltb}
use Rattle.definition.specs.Checks.{Conditions, ◌otherwise◌}
use Rattle.definition.specs.File.{negative, greatest_pointer}
use Rattle.definition.specs.Cells.{entity, field, Typing, access, read_access, field_access}
use Rattle.definition.specs.Statements.{Entities, stored_natural, points_at_field}

-- an entity and a field are read, and a value of a type is written
abbrev pub operand_conditions : Typing → ℕ → ℕ → ℕ → ℕ → List ℕ → Conditions
operand_conditions g t a b c cells = read_access g true entity a cells ++ read_access g true field b cells ++ access g t c

-- a field is read: 30; 16 and 31, cell by cell; 17
abbrev pub loaded_conditions : ℕ → Typing → Entities → ℕ → ℕ → Conditions
loaded_conditions t h e number named =
    ((ltb number e.count otherwise 30) ∷ [])
    ++ field_access h t named
    ++ ((not (stored_natural t && negative (get_or e.cells (number * h.count + named) 0)) otherwise 17) ∷ [])

-- a pointer is made, for an entity of so many, each of so many cells: 30, 31, 32
abbrev pub made_conditions : ℕ → ℕ → ℕ → ℕ → Conditions
made_conditions count size number named =
    (ltb number count otherwise 30) ∷ (ltb named size otherwise 31) ∷ (leb ((number * size + named) * 4) greatest_pointer otherwise 32) ∷ []

-- a field is written through a pointer: 32; 16 and 31, cell by cell
abbrev pub pointed_conditions : ℕ → Typing → Entities → ℕ → Conditions
pointed_conditions t h e p = (points_at_field h e p otherwise 32) ∷ field_access h t (p / 4 % h.count)
