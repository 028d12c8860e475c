-- THE LOAD. Document 02's 36, document 01's refusals 1 to 12, in the table's order, and 02's 13 after them; what an accepted load leaves; and the program of a file.
use Rattle.std.specs.Prelude.{ℕ, ◌+◌, ◌*◌, List, [], ◌∷◌, ◌++◌, Bool, true, ◌&&◌, ℤ, length, drop, leb, ltb, eqb}
use Rattle.definition.specs.declared.Lump.{Lump}
use Rattle.definition.specs.declared.FileRecord.{FileRecord}
use Rattle.definition.specs.declared.Settings.{Settings}
use Rattle.definition.specs.declared.Statement.{Statement}
use Rattle.definition.specs.declared.Definition.{Definition}
use Rattle.definition.specs.declared.FunctionDef.{FunctionDef}
use Rattle.definition.specs.Checks.{Condition, Conditions, ◌otherwise◌, Checked, guard}
use Rattle.definition.specs.File.{version, opcode_count, greatest_type, save_flag, least_cells, most_entities, saved_store, version_of, check_number_of, file_of, length_fits, lumps_fit, cells_fit, entity_fits, settings_fit}
use Rattle.definition.specs.File.{Contents, contents_at, contents_of, unpacked_size, unpacked_statements, with_statements, builtin_known}
use Rattle.definition.specs.Cells.{type_of}
use Rattle.definition.specs.Statements.{place_of, fetch_conditions, does_at}
use Rattle.definition.specs.Machine.{Fetch, Program, Config, start_state, entities_fit}

-- ---- the records, each along its row

-- "name or source file below 0 or not below the string length": a negative number's bits are above every length
abbrev pub named : ℕ → ℕ → Condition
named strings name = ltb name strings otherwise 6

abbrev pub function_conditions : ℕ → FunctionDef → Conditions
function_conditions strings d = (builtin_known d otherwise 5) ∷ named strings d.name ∷ named strings d.srcfile ∷ []

abbrev pub statement_conditions : Statement → Conditions
statement_conditions st = (ltb st.opcode opcode_count otherwise 7) ∷ []

abbrev pub type_known : Definition → Condition
type_known d = leb (type_of d) greatest_type otherwise 8

abbrev pub globaldef_conditions : ℕ → Definition → Conditions
globaldef_conditions strings d = named strings d.name ∷ type_known d ∷ []

-- "9: save flag in a field definition"
abbrev pub fielddef_conditions : ℕ → Definition → Conditions
fielddef_conditions strings d = named strings d.name ∷ (ltb d.kind save_flag otherwise 9) ∷ type_known d ∷ []

-- "load takes records in order"
unfoldable pub each : {A : Type 0} → (A → Conditions) → List A → Conditions
each conditions [] = []
each conditions (x ∷ xs) = conditions x ++ each conditions xs

-- ---- the load

-- the row "header", for files of this check number
unfoldable pub header_conditions : ℕ → List ℕ → Conditions
header_conditions check file =
    (length_fits (file_of file) otherwise 1)
    ∷ (eqb (version_of file) version otherwise 2)
    ∷ (eqb (check_number_of file) check otherwise 3)
    ∷ (lumps_fit (file_of file) otherwise 4)
    ∷ []

-- the rows "functions", "statements", "global, then field definitions"
unfoldable pub record_conditions : ℕ → Contents → Conditions
record_conditions strings k =
    each (function_conditions strings) k.functions
    ++ each statement_conditions k.statements
    ++ each (globaldef_conditions strings) k.globaldefs
    ++ each (fielddef_conditions strings) k.fielddefs

-- the row "cells", beside so many lent cells and a saved store of so many; `least` is the least number of cells
unfoldable pub cell_conditions : ℕ → FileRecord → ℕ → ℕ → Conditions
cell_conditions least r lent store =
    (cells_fit least r otherwise 10)
    ∷ (entity_fits r otherwise 11)
    ∷ (leb r.globals.count lent && leb saved_store store otherwise 12)
    ∷ []

-- R-3: "are refused 13, at load after 12"
abbrev pub entity_conditions : FileRecord → ℕ → ℕ → Conditions
entity_conditions r n lent = (entities_fit n r.entityfields lent otherwise 13) ∷ []

-- of a file of this check number, beside n entities, so many lent cells, a saved store of so many, and so many lent entity cells
abbrev pub file_conditions : ℕ → ℕ → List ℕ → ℕ → ℕ → ℕ → ℕ → Conditions
file_conditions least check file n lent store entities =
    header_conditions check file
    ++ record_conditions (file_of file).strings.count (contents_of file)
    ++ cell_conditions least (file_of file) lent store
    ++ entity_conditions (file_of file) n entities

-- R-11: "Settings out of range are refused 36, before the file is looked at"
abbrev pub load_conditions : Settings → List ℕ → ℕ → ℕ → ℕ → ℕ → Conditions
load_conditions s file n lent store entities =
    (settings_fit s otherwise 36) ∷ file_conditions least_cells s.check_number file n lent store entities

-- "A load fills the lent cells from 0 and leaves those past the file's count"; the entity cells "are untouched, by a load too"
unfoldable pub loaded : Settings → List ℕ → ℕ → List ℕ → List ℕ → List ℕ → Config
loaded s file n cells saved entities =
    record {
      state = start_state s (file_of file) n;
      cells = (contents_of file).globals ++ drop (file_of file).globals.count cells;
      saved = saved;
      entities = entities;
    }

-- the number of entities that a host gives is signed; a negative one is more than there may be
abbrev pub entities_given : ℤ → ℕ
entities_given n = place_of (most_entities + 1) n

unfoldable pub load : Settings → List ℕ → ℤ → List ℕ → List ℕ → List ℕ → Checked Config
load s file n cells saved entities =
    guard
    (load_conditions s file (entities_given n) (length cells) (length saved) (length entities))
    (loaded s file (entities_given n) cells saved entities)

-- ---- the program of a file

abbrev pub same_lump : Lump → Lump → Bool
same_lump a b = eqb a.offset b.offset && eqb a.count b.count

unfoldable pub same_file : FileRecord → FileRecord → Bool
same_file a b =
    eqb a.length b.length
    && same_lump a.statements b.statements
    && same_lump a.globaldefs b.globaldefs
    && same_lump a.fielddefs b.fielddefs
    && same_lump a.functions b.functions
    && same_lump a.strings b.strings
    && same_lump a.globals b.globals
    && eqb a.entityfields b.entityfields

-- 13: "file length, header lumps or cells per entity not as the state records, or outside 1, 4, 10 or 11; lent cells fewer than the file's"
-- with `least` for the least number of cells
unfoldable pub recorded_in : ℕ → List ℕ → FileRecord → ℕ → Bool
recorded_in least file r lent =
    same_file r (file_of file)
    && length_fits r
    && lumps_fit r
    && cells_fit least r
    && entity_fits r
    && leb r.globals.count lent

-- R-12: the statements are as many as the file has, read from the buffer, and all else is the file's; "shorter than four numbers a statement is refused 37"
abbrev pub fetch_unpacked : ℕ → Contents → List ℕ → Fetch
fetch_unpacked n k buffer =
    let from = with_statements k (unpacked_statements buffer n) in
    record {
      room = leb (unpacked_size * n) (length buffer);
      fetching = fetch_conditions from.statements;
      does = does_at from;
    }

-- with the lumps where a record of the file has them, and the least number of cells that 13 takes
unfoldable pub program_with : ℕ → FileRecord → List ℕ → Program
program_with least r file =
    let k = contents_at r file in
    record {
      functions = k.functions;
      room = true;
      fetching = fetch_conditions k.statements;
      does = does_at k;
      recorded = recorded_in least file;
      unpacked = fetch_unpacked r.statements.count k;
    }

abbrev pub program_at : FileRecord → List ℕ → Program
program_at r file = program_with least_cells r file

abbrev pub program_of : List ℕ → Program
program_of file = program_at (file_of file) file
