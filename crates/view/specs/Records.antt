-- WHAT THE VIEW'S READERS FIND, in terms of the definition: a record of the file's contents, where its lump is in the bytes and has such a record.
-- "4: lump negative or past the end".
use Rattle.std.specs.Prelude.{ℕ, List, Option, Some, None, cond, length, get_or, ltb, ℤ}
use Rattle.definition.specs.declared.Definition.{Definition}
use Rattle.definition.specs.declared.FileRecord.{FileRecord}
use Rattle.definition.specs.declared.FunctionDef.{FunctionDef}
use Rattle.definition.specs.declared.Lump.{Lump}
use Rattle.definition.specs.declared.Statement.{Statement}
use Rattle.definition.specs.Checks.{Checked, accepted, refused}
use Rattle.definition.specs.File.{lump_fits, records_in, read_definition, contents_at, no_function}
use Rattle.definition.specs.Statements.{place_of}
use Rattle.functions.specs.Answers.{fetched}

-- the record with a number, or `absent`; `none` is never used
abbrev pub record_at : {A B : Type 0} → (A → B) → B → A → List A → ℤ → B
record_at found absent none records n =
    cond (ltb (place_of (length records) n) (length records)) (found (get_or records (place_of (length records) n) none)) absent

-- the statement at a position, and its index
unfoldable pub statement_in : List ℕ → FileRecord → ℤ → Checked (ℕ × Statement)
statement_in file r pc =
    cond (lump_fits 8 (length file) r.statements) (fetched (contents_at r file).statements pc) (refused 4)

-- "20: no such function"
unfoldable pub function_in : List ℕ → FileRecord → ℤ → Checked FunctionDef
function_in file r id =
    cond
    (lump_fits 36 (length file) r.functions)
    (record_at accepted (refused 20) no_function (contents_at r file).functions id)
    (refused 4)

abbrev pub no_definition : Definition
no_definition = record { kind = 0; offset = 0; name = 0 }

abbrev pub definition_found : Definition → Checked (Option Definition)
definition_found d = accepted (Some d)

-- the definitions of a lump; document 01 has no number for one that isn't there
unfoldable pub definition_at : List ℕ → Lump → ℤ → Checked (Option Definition)
definition_at file l index =
    cond
    (lump_fits 8 (length file) l)
    (record_at definition_found (accepted None) no_definition (records_in (read_definition file) 8 l) index)
    (refused 4)

abbrev pub definition_in : List ℕ → FileRecord → ℤ → Checked (Option Definition)
definition_in file r index = definition_at file r.globaldefs index

abbrev pub field_in : List ℕ → FileRecord → ℤ → Checked (Option Definition)
field_in file r index = definition_at file r.fielddefs index
