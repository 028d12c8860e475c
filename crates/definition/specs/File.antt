-- THE FILE. Document 01, "File", and pr_comp.h: the header, six lumps, the records, builtin numbers.
use Rattle.std.specs.Prelude.{ℕ, zero, suc, ◌+◌, ◌-◌, ◌*◌, List, [], ◌∷◌, Bool, not, ◌&&◌, ◌||◌, length, get_or, replicate, leb, eqb}
use Rattle.definition.specs.declared.Lump.{Lump}
use Rattle.definition.specs.declared.FileRecord.{FileRecord}
use Rattle.definition.specs.declared.Settings.{Settings}
use Rattle.definition.specs.declared.Statement.{Statement}
use Rattle.definition.specs.declared.Definition.{Definition}
use Rattle.definition.specs.declared.FunctionDef.{FunctionDef}

-- ---- the numbers of 01, once: wherever one is meant it is named. The code has the same, by the same names, in src/lib.rt

-- "Version 6; check number 5927"
abbrev pub version : ℕ
version = 6

abbrev pub check_number : ℕ
check_number = 5927

-- "Record sizes: 8, 8, 8, 36, 1, 4 bytes"
abbrev pub statement_size : ℕ
statement_size = 8

abbrev pub definition_size : ℕ
definition_size = 8

abbrev pub function_size : ℕ
function_size = 36

abbrev pub cell_size : ℕ
cell_size = 4

-- "1: length under 60 or over 1,048,576"
abbrev pub header_length : ℕ
header_length = 60

abbrev pub longest_file : ℕ
longest_file = 1048576

-- 7: "opcodes 0 to 65"
abbrev pub opcode_count : ℕ
opcode_count = 66

-- "8: type over 7, flag apart"
abbrev pub greatest_type : ℕ
greatest_type = 7

-- "Bit 15 of the type is the save flag"
abbrev pub save_flag : ℕ
save_flag = 32768

-- "10: under 36 or over 32,768"; R-7: "Files of 36 to 63 cells are refused 10 from now on"
abbrev pub least_cells : ℕ
least_cells = 64

-- R-7: the "padding program, which alone still admits them"
abbrev pub least_to_pad : ℕ
least_to_pad = 36

abbrev pub most_cells : ℕ
most_cells = 32768

-- "11: entity cells under 105"
abbrev pub least_entity_cells : ℕ
least_entity_cells = 105

-- R-3: "More than 600 entities .. are refused 13"
abbrev pub most_entities : ℕ
most_entities = 600

-- R-3: "32 for a pointer to be made over 2,147,483,647"
abbrev pub greatest_pointer : ℕ
greatest_pointer = 2147483647

-- "saved store under 2,048" (12, 13), "saved over 2,048" (13, 23)
abbrev pub saved_store : ℕ
saved_store = 2048

-- "depth over 31" (13), "depth is 31" (22)
abbrev pub greatest_depth : ℕ
greatest_depth = 31

-- "24: argument count outside 0 to 8", and a function record's "eight argument sizes"
abbrev pub most_arguments : ℕ
most_arguments = 8

-- "28: limit outside 1 to 99,999"
abbrev pub greatest_limit : ℕ
greatest_limit = 99999

-- R-11: "Check number (0 to 65,535)"
abbrev pub greatest_check_number : ℕ
greatest_check_number = 65535

-- ---- numbers in the file: little-endian; past the end of the file a byte reads as 0, and nothing accepted reads there

unfoldable pub byte_at : List ℕ → ℕ → ℕ
byte_at file at = get_or file at 0

unfoldable pub u16_at : List ℕ → ℕ → ℕ
u16_at file at = byte_at file at + 256 * byte_at file (at + 1)

unfoldable pub u32_at : List ℕ → ℕ → ℕ
u32_at file at = u16_at file at + 65536 * u16_at file (at + 2)

-- a signed 32-bit number is kept as its unsigned bits
abbrev pub negative : ℕ → Bool
negative x = leb 2147483648 x

-- ---- header: "fifteen signed 32-bit numbers"

abbrev pub version_of : List ℕ → ℕ
version_of file = u32_at file 0

abbrev pub check_number_of : List ℕ → ℕ
check_number_of file = u32_at file 4

abbrev pub lump_at : List ℕ → ℕ → Lump
lump_at file at = record { offset = u32_at file at; count = u32_at file (at + 4) }

-- "offset and count of statements, global definitions, field definitions, functions, strings, cells; cells per entity"
unfoldable pub file_of : List ℕ → FileRecord
file_of file =
    record {
      length = length file;
      statements = lump_at file 8;
      globaldefs = lump_at file 16;
      fielddefs = lump_at file 24;
      functions = lump_at file 32;
      strings = lump_at file 40;
      globals = lump_at file 48;
      entityfields = u32_at file 56;
    }

-- ---- what the header may say: the conditions of refusals 1, 4, 10 and 11

abbrev pub length_fits : FileRecord → Bool
length_fits r = leb header_length r.length && leb r.length longest_file

-- neither number is negative, and the records end in the file; "an empty lump may have any non-negative offset"
abbrev pub lump_fits : ℕ → ℕ → Lump → Bool
lump_fits size end l =
    not (negative l.offset) && not (negative l.count) && (eqb l.count 0 || leb (l.offset + size * l.count) end)

-- "Record sizes: 8, 8, 8, 36, 1, 4 bytes. Lumps may overlap"
unfoldable pub lumps_fit : FileRecord → Bool
lumps_fit r =
    lump_fits statement_size r.length r.statements
    && lump_fits definition_size r.length r.globaldefs
    && lump_fits definition_size r.length r.fielddefs
    && lump_fits function_size r.length r.functions
    && lump_fits 1 r.length r.strings
    && lump_fits cell_size r.length r.globals

-- 10, with `least` for the least number of cells
abbrev pub cells_fit : ℕ → FileRecord → Bool
cells_fit least r = leb least r.globals.count && leb r.globals.count most_cells

abbrev pub entity_fits : FileRecord → Bool
entity_fits r = leb least_entity_cells r.entityfields && not (negative r.entityfields)

-- ---- records

-- n records of a size, one behind the other from byte `at` on
unfoldable pub records : {A : Type 0} → (ℕ → A) → ℕ → ℕ → ℕ → List A
records read size zero at = []
records read size (suc n) at = read at ∷ records read size n (at + size)

abbrev pub records_in : {A : Type 0} → (ℕ → A) → ℕ → Lump → List A
records_in read size l = records read size l.count l.offset

-- "Statement: opcode, three operands, each signed 16 bits"
abbrev pub read_statement : List ℕ → ℕ → Statement
read_statement file at =
    record { opcode = u16_at file at; arg1 = u16_at file (at + 2); arg2 = u16_at file (at + 4); arg3 = u16_at file (at + 6) }

-- "Definition: type and cell, each unsigned 16 bits; name offset, signed 32"
abbrev pub read_definition : List ℕ → ℕ → Definition
read_definition file at = record { kind = u16_at file at; offset = u16_at file (at + 2); name = u32_at file (at + 4) }

-- "Function: first statement, first local cell, local count, a profile number that is ignored, name, source file, argument count (signed 32 each);
-- eight argument sizes (a byte each)"
abbrev pub read_function : List ℕ → ℕ → FunctionDef
read_function file at =
    record {
      first = u32_at file at;
      start = u32_at file (at + 4);
      locals = u32_at file (at + 8);
      name = u32_at file (at + 16);
      srcfile = u32_at file (at + 20);
      argc = u32_at file (at + 24);
      argsz = records (byte_at file) 1 most_arguments (at + 28);
    }

-- ---- contents: all that a file says, wherever its lumps stand

pub record Contents : Type 0 where
  pub statements : List Statement
  pub globaldefs : List Definition
  pub fielddefs : List Definition
  pub functions : List FunctionDef
  pub strings : List ℕ
  -- the starting cells
  pub globals : List ℕ
  pub entityfields : ℕ

-- with the lumps where a record of the file has them
unfoldable pub contents_at : FileRecord → List ℕ → Contents
contents_at r file =
    record {
      statements = records_in (read_statement file) statement_size r.statements;
      globaldefs = records_in (read_definition file) definition_size r.globaldefs;
      fielddefs = records_in (read_definition file) definition_size r.fielddefs;
      functions = records_in (read_function file) function_size r.functions;
      strings = records_in (byte_at file) 1 r.strings;
      globals = records_in (u32_at file) cell_size r.globals;
      entityfields = r.entityfields;
    }

abbrev pub contents_of : List ℕ → Contents
contents_of file = contents_at (file_of file) file

-- ---- unpacked statements (R-12): "a lent buffer of 16-bit numbers, four to a statement in the file's order"

abbrev pub unpacked_size : ℕ
unpacked_size = 4

abbrev pub read_unpacked : List ℕ → ℕ → Statement
read_unpacked buffer at =
    record { opcode = get_or buffer at 0; arg1 = get_or buffer (at + 1) 0; arg2 = get_or buffer (at + 2) 0; arg3 = get_or buffer (at + 3) 0 }

-- the first n statements of a buffer
abbrev pub unpacked_statements : List ℕ → ℕ → List Statement
unpacked_statements buffer n = records (read_unpacked buffer) unpacked_size n 0

-- the numbers of statements
unfoldable pub numbers_of : List Statement → List ℕ
numbers_of [] = []
numbers_of (st ∷ sts) = st.opcode ∷ st.arg1 ∷ st.arg2 ∷ st.arg3 ∷ numbers_of sts

-- the contents with other statements
abbrev pub with_statements : Contents → List Statement → Contents
with_statements k statements =
    record {
      statements = statements;
      globaldefs = k.globaldefs;
      fielddefs = k.fielddefs;
      functions = k.functions;
      strings = k.strings;
      globals = k.globals;
      entityfields = k.entityfields;
    }

-- ---- functions and builtins

abbrev pub no_function : FunctionDef
no_function = record { first = 0; start = 0; locals = 0; name = 0; srcfile = 0; argc = 0; argsz = replicate most_arguments 0 }

abbrev pub between : ℕ → ℕ → ℕ → Bool
between low high n = leb low n && leb n high

-- ---- settings (R-11)

-- "Check number (0 to 65,535), greatest depth (1 to 31), greatest saved count (0 to 2,048) and greatest run limit (1 to 99,999)". A host's numbers are
-- signed: the bits of a negative one are above every bound
unfoldable pub settings_fit : Settings → Bool
settings_fit s =
    leb s.check_number greatest_check_number
    && between 1 greatest_depth s.depth
    && leb s.saved saved_store
    && between 1 greatest_limit s.limit

-- those of 01: "5927, 31, 2,048 and 99,999"
abbrev pub standard : Settings
standard = record { check_number = check_number; depth = greatest_depth; saved = saved_store; limit = greatest_limit }

-- "1-4, 6-32, 34-38, 40-41, 43-49, 51-59, 67-70, 72-78"
unfoldable pub builtin_number : ℕ → Bool
builtin_number n =
    between 1 4 n
    || between 6 32 n
    || between 34 38 n
    || between 40 41 n
    || between 43 49 n
    || between 51 59 n
    || between 67 70 n
    || between 72 78 n

-- "A negative first statement is a builtin: minus" its number
abbrev pub is_builtin : FunctionDef → Bool
is_builtin d = negative d.first

abbrev pub builtin_of : FunctionDef → ℕ
builtin_of d = 4294967296 - d.first

-- the condition of refusal 5
abbrev pub builtin_known : FunctionDef → Bool
builtin_known d = not (is_builtin d) || builtin_number (builtin_of d)
