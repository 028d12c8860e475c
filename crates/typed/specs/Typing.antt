-- TYPED CELLS by what the code takes: the part of the file that has the global definitions, and the file's count of cells; of an entity's cells the part
-- that has the field definitions, and the cells per entity.
use Rattle.std.specs.Prelude.{ℕ, List, [], ◌∷◌, Option, None, Some, Bool, cond, eqb}
use Rattle.definition.specs.declared.Definition.{Definition}
use Rattle.functions.specs.Parts.{definitions_in}
use Rattle.definition.specs.Cells.{Typing, untyped, type_of, lookup, passes}

abbrev pub typing : List ℕ → ℕ → Typing
typing defs count = record { definitions = definitions_in defs; count = count }

-- the type that a lookup gives, if it gives one
abbrev pub found : ℕ → Option ℕ
found t = cond (eqb t untyped) None (Some t)

-- the type of the first definition of a cell, void or not
unfoldable pub first_in : List Definition → ℕ → Option ℕ
first_in [] cell = None
first_in (d ∷ ds) cell = cond (eqb d.offset cell) (Some (type_of d)) (first_in ds cell)

-- the test of refusal 16
unfoldable pub type_check : List Definition → ℕ → ℕ → Bool
type_check definitions want cell = passes (lookup definitions cell) want
