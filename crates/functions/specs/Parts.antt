-- PARTS OF THE FILE: the bytes of one lump, and the whole records that such a part has.
use Rattle.std.specs.Prelude.{ℕ, ◌*◌, ◌/◌, List, length, take, drop}
use Rattle.definition.specs.declared.Lump.{Lump}
use Rattle.definition.specs.declared.Statement.{Statement}
use Rattle.definition.specs.declared.Definition.{Definition}
use Rattle.definition.specs.declared.FunctionDef.{FunctionDef}
use Rattle.definition.specs.File.{records, u32_at, read_statement, read_definition, read_function}

abbrev pub part_of : ℕ → Lump → List ℕ → List ℕ
part_of size l file = take (size * l.count) (drop l.offset file)

abbrev pub records_of : {A : Type 0} → (List ℕ → ℕ → A) → ℕ → List ℕ → List A
records_of read size part = records (read part) size (length part / size) 0

abbrev pub statements_in : List ℕ → List Statement
statements_in part = records_of read_statement 8 part

abbrev pub definitions_in : List ℕ → List Definition
definitions_in part = records_of read_definition 8 part

abbrev pub functions_in : List ℕ → List FunctionDef
functions_in part = records_of read_function 36 part

-- the starting cells
abbrev pub cells_in : List ℕ → List ℕ
cells_in part = records_of u32_at 4 part
