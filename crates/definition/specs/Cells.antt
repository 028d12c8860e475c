-- CELLS. Document 01, "Cells and statements", first paragraph, and the row "operands, raw access": type lookup and typed access.
use Rattle.std.specs.Prelude.{ℕ, ◌+◌, ◌-◌, ◌%◌, List, [], ◌∷◌, ◌++◌, Bool, not, ◌&&◌, ◌||◌, cond, length, get_or, ltb, eqb, ℤ, pos, negsuc}
use Rattle.definition.specs.declared.Definition.{Definition}
use Rattle.definition.specs.Checks.{Conditions, ◌otherwise◌}
use Rattle.definition.specs.File.{Contents, negative, save_flag}

-- ---- types: "0 void, 1 string, 2 float, 3 vector, 4 entity, 5 field, 6 function, 7 pointer"

abbrev pub void : ℕ
void = 0

abbrev pub string : ℕ
string = 1

abbrev pub float : ℕ
float = 2

abbrev pub vector : ℕ
vector = 3

abbrev pub entity : ℕ
entity = 4

abbrev pub field : ℕ
field = 5

abbrev pub function : ℕ
function = 6

abbrev pub pointer : ℕ
pointer = 7

-- what a lookup gives for a cell that no definition gives a type: no type, since bit 15 of a definition's type is its save flag
abbrev pub untyped : ℕ
untyped = save_flag

-- "Bit 15 of the type is the save flag"
abbrev pub type_of : Definition → ℕ
type_of d = d.kind % save_flag

-- whether a definition gives this cell its type. R-5: "Void definitions are passed over, as the Rust already does for entities", the save flag apart
abbrev pub binds : Definition → ℕ → Bool
binds d cell = eqb d.offset cell && not (eqb (type_of d) void)

-- "Type lookup takes the first global definition, in file order, with that cell", and so for the field definitions (R-3); a cell that void definitions
-- alone name has no type
unfoldable pub lookup : List Definition → ℕ → ℕ
lookup [] cell = untyped
lookup (d ∷ ds) cell = cond (binds d cell) (type_of d) (lookup ds cell)

-- vector counts as float
unfoldable pub scalar : ℕ → ℕ
scalar t = cond (eqb t vector) float t

-- "Float and vector pass for each other; otherwise types must match; a cell without a definition passes"
unfoldable pub passes : ℕ → ℕ → Bool
passes t want = eqb t untyped || eqb (scalar t) (scalar want)

-- ---- operands

-- The signed value of an operand, which is kept as its unsigned 16 bits.
unfoldable pub signed : ℕ → ℤ
signed x = cond (ltb x 32768) (pos x) (negsuc (65535 - x))

-- The cell that an operand names. A negative operand names none: 98,304 or more is above every count of cells and every definition's cell.
unfoldable pub cell_of : ℕ → ℕ
cell_of x = cond (ltb x 32768) x (x + 65536)

-- ---- typed access

-- what an access looks at: the definitions, and how many cells there are. Of the cells these are the global definitions and the file's count, of an
-- entity's cells (R-3) the field definitions and the cells per entity
pub record Typing : Type 0 where
  pub definitions : List Definition
  pub count : ℕ

abbrev pub typing_of : Contents → Typing
typing_of k = record { definitions = k.globaldefs; count = length k.globals }

abbrev pub fields_of : Contents → Typing
fields_of k = record { definitions = k.fielddefs; count = k.entityfields }

abbrev pub type_is : Typing → ℕ → ℕ → Bool
type_is g want cell = passes (lookup g.definitions cell) want

-- "15: cell negative or not below the count"
abbrev pub addressed : Typing → ℕ → Conditions
addressed g cell = (ltb cell g.count otherwise 15) ∷ []

-- "A typed access checks type, then address"
unfoldable pub cell_access : Typing → ℕ → ℕ → Conditions
cell_access g want cell = (type_is g want cell otherwise 16) ∷ addressed g cell

-- "A vector checks its first cell as vector, then each of its three as float"
unfoldable pub vector_access : Typing → ℕ → Conditions
vector_access g cell =
    (type_is g vector cell otherwise 16) ∷ cell_access g float cell ++ cell_access g float (cell + 1) ++ cell_access g float (cell + 2)

unfoldable pub access : Typing → ℕ → ℕ → Conditions
access g want cell = cond (eqb want vector) (vector_access g cell) (cell_access g want cell)

-- "17: negative entity or field read"
abbrev pub must_be_natural : ℕ → Bool
must_be_natural t = eqb t entity || eqb t field

-- a read of a value: the access, then 17
unfoldable pub read_access : Typing → Bool → ℕ → ℕ → List ℕ → Conditions
read_access g must t cell cells = access g t cell ++ ((not (must && negative (get_or cells cell 0)) otherwise 17) ∷ [])

-- ---- the fields of an entity (R-3)

-- "cell by cell, 16 by field definition .. and 31 for a field cell not below the cells per entity"
unfoldable pub field_cell_access : Typing → ℕ → ℕ → Conditions
field_cell_access h want field = (type_is h want field otherwise 16) ∷ (ltb field h.count otherwise 31) ∷ []

-- a vector is three cells, each typed as float
unfoldable pub field_access : Typing → ℕ → ℕ → Conditions
field_access h want field =
    cond (eqb want vector)
    (field_cell_access h float field ++ field_cell_access h float (field + 1) ++ field_cell_access h float (field + 2))
    (field_cell_access h want field)
