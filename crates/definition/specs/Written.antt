-- WRITING PROGRAM FILES. Document 02, R-6: "The machine writes a loaded program: header, then the six lumps in header order without gaps, profile
-- numbers 0." What is written is made of what a file says, `File: Contents`, and of the check number: so "placement" and "profile numbers", which no
-- contents have, can't change it, and neither can a running cell.
use Rattle.std.specs.Prelude.{ℕ, ◌+◌, ◌-◌, ◌*◌, ◌/◌, ◌%◌, List, [], ◌∷◌, ◌++◌, ◌&&◌, length, drop, replicate, leb, Result}
use Rattle.definition.specs.declared.Lump.{Lump}
use Rattle.definition.specs.declared.FileRecord.{FileRecord}
use Rattle.definition.specs.declared.Statement.{Statement}
use Rattle.definition.specs.declared.Definition.{Definition}
use Rattle.definition.specs.declared.FunctionDef.{FunctionDef}
use Rattle.definition.specs.declared.refusal.Refusal.{Refusal}
use Rattle.definition.specs.Checks.{Conditions, ◌otherwise◌, Checked, refused, accepted, guard}
use Rattle.definition.specs.Refusals.{checked}
use Rattle.definition.specs.File.{version, check_number, statement_size, definition_size, function_size, cell_size, header_length, longest_file, least_cells, Contents, contents_of}
use Rattle.definition.specs.Machine.{Config}
use Rattle.definition.specs.Load.{program_of}
use Rattle.definition.specs.Operations.{sound}

-- ---- numbers, lowest byte first (01: "little-endian in the file")

unfoldable pub u16_bytes : ℕ → List ℕ
u16_bytes x = x % 256 ∷ x / 256 ∷ []

unfoldable pub u32_bytes : ℕ → List ℕ
u32_bytes x = u16_bytes (x % 65536) ++ u16_bytes (x / 65536)

-- ---- records: the fields of `File: read_statement`, `read_definition`, `read_function`, in their order

unfoldable pub statement_bytes : Statement → List ℕ
statement_bytes s = u16_bytes s.opcode ++ u16_bytes s.arg1 ++ u16_bytes s.arg2 ++ u16_bytes s.arg3

unfoldable pub definition_bytes : Definition → List ℕ
definition_bytes d = u16_bytes d.kind ++ u16_bytes d.offset ++ u32_bytes d.name

-- "profile numbers 0"; all of the argument sizes, also those past the argument count
unfoldable pub function_bytes : FunctionDef → List ℕ
function_bytes d =
    u32_bytes d.first
    ++ u32_bytes d.start
    ++ u32_bytes d.locals
    ++ u32_bytes 0
    ++ u32_bytes d.name
    ++ u32_bytes d.srcfile
    ++ u32_bytes d.argc
    ++ d.argsz

-- one record behind the other
unfoldable pub bytes_of : {A : Type 0} → (A → List ℕ) → List A → List ℕ
bytes_of write [] = []
bytes_of write (x ∷ xs) = write x ++ bytes_of write xs

-- ---- header

abbrev pub end_of : ℕ → Lump → ℕ
end_of size l = l.offset + size * l.count

abbrev pub behind : ℕ → Lump → ℕ → Lump
behind size l count = record { offset = end_of size l; count = count }

-- "the six lumps in header order without gaps": so many statements, global definitions, field definitions, functions, bytes of strings and cells. The first
-- lump starts behind the header, and each of the others where the one before it ends, an empty one too; the last one ends with the file.
unfoldable pub layout : ℕ → ℕ → ℕ → ℕ → ℕ → ℕ → ℕ → FileRecord
layout statements globaldefs fielddefs functions strings globals entityfields =
    let s : Lump = record { offset = header_length; count = statements } in
    let g = behind statement_size s globaldefs in
    let f = behind definition_size g fielddefs in
    let u = behind definition_size f functions in
    let t = behind function_size u strings in
    let c = behind 1 t globals in
    record {
      length = end_of cell_size c;
      statements = s;
      globaldefs = g;
      fielddefs = f;
      functions = u;
      strings = t;
      globals = c;
      entityfields = entityfields;
    }

abbrev pub layout_of : Contents → FileRecord
layout_of k =
    layout
    (length k.statements)
    (length k.globaldefs)
    (length k.fielddefs)
    (length k.functions)
    (length k.strings)
    (length k.globals)
    k.entityfields

-- 01: "Version 6; check number ..; offset and count of statements, global definitions, field definitions, functions, strings, cells; cells per entity"
unfoldable pub header_numbers : ℕ → FileRecord → List ℕ
header_numbers check r =
    version
    ∷ check
    ∷ r.statements.offset
    ∷ r.statements.count
    ∷ r.globaldefs.offset
    ∷ r.globaldefs.count
    ∷ r.fielddefs.offset
    ∷ r.fielddefs.count
    ∷ r.functions.offset
    ∷ r.functions.count
    ∷ r.strings.offset
    ∷ r.strings.count
    ∷ r.globals.offset
    ∷ r.globals.count
    ∷ r.entityfields
    ∷ []

-- ---- the written file, with this check number: "header, then the six lumps in header order without gaps"

unfoldable pub written : ℕ → Contents → List ℕ
written check k =
    bytes_of u32_bytes (header_numbers check (layout_of k))
    ++ bytes_of statement_bytes k.statements
    ++ bytes_of definition_bytes k.globaldefs
    ++ bytes_of definition_bytes k.fielddefs
    ++ bytes_of function_bytes k.functions
    ++ k.strings
    ++ bytes_of u32_bytes k.globals

-- ---- padded files (R-7)

-- "with zero cells added .. and everything else equal"
abbrev pub padded : ℕ → Contents → Contents
padded n k =
    record {
      statements = k.statements;
      globaldefs = k.globaldefs;
      fielddefs = k.fielddefs;
      functions = k.functions;
      strings = k.strings;
      globals = k.globals ++ replicate n 0;
      entityfields = k.entityfields;
    }

-- "it writes them by R-6 with zero cells added up to 64"; of 64 cells or more with none added
abbrev pub padded_file : List ℕ → List ℕ
padded_file file =
    let k = contents_of file in
    written check_number (padded (least_cells - length k.globals) k)

-- ---- into a lent output buffer

-- the output buffer after it, and the length of what was written
pub record Image : Type 0 where
  pub output : List ℕ
  pub length : ℕ

-- "An output buffer that is too short, or a written length over 1,048,576, is refused 34"
abbrev pub room_conditions : List ℕ → ℕ → Conditions
room_conditions bytes room = (leb (length bytes) room && leb (length bytes) longest_file otherwise 34) ∷ []

-- at the front; 01: "A buffer written in part keeps the rest"
abbrev pub placed : List ℕ → List ℕ → Image
placed bytes output = record { output = bytes ++ drop (length bytes) output; length = length bytes }

-- ---- the operation, on a state

-- "The writer works from the file's own cells and not from the running ones"; R-11: "R-6 writes the check number held"
abbrev pub image : ℕ → List ℕ → List ℕ
image check file = written check (contents_of file)

abbrev check_held : Config → ℕ
check_held c = c.state.settings.check_number

-- 13 as in any operation on a state, then 34
unfoldable pub write_conditions : List ℕ → ℕ → Config → Conditions
write_conditions file room c = (sound (program_of file) c otherwise 13) ∷ room_conditions (image (check_held c) file) room

unfoldable pub write_file : List ℕ → List ℕ → Config → Checked Image
write_file file output c = guard (write_conditions file (length output) c) (placed (image (check_held c) file) output)

-- what is answered, the length of what was written, and the output buffer after it: "refused 34 and nothing is written"
pub record WriteOutcome : Type 0 where
  pub answer : Checked ℕ
  pub output : List ℕ

abbrev pub write_outcome : List ℕ → Checked Image → WriteOutcome
write_outcome output (refused n) = record { answer = refused n; output = output }
write_outcome output (accepted i) = record { answer = accepted i.length; output = i.output }

-- what the code answers and leaves
abbrev pub outcome_of : Result ℕ Refusal → List ℕ → WriteOutcome
outcome_of r output = record { answer = checked r; output = output }
