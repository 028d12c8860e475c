-- EXAMPLES for the padding program (document 02, R-7), computed from the definition: files of 35, 36 and 64 cells, and a statement of the second.
use Rattle.std.specs.Prelude.{ℕ, ◌≡◌, refl, List, [], ◌∷◌, ◌++◌, replicate}
use Rattle.definition.specs.Checks.{judge, guard}
use Rattle.definition.specs.File.{byte_at, u16_at, u32_at, file_of, lumps_fit, records, contents_at, builtin_number, settings_fit, standard, Contents}
use Rattle.definition.specs.Load.{each, header_conditions, record_conditions, cell_conditions, loaded, same_file, recorded_in, program_with, program_of}
use Rattle.definition.specs.Cells.{lookup, scalar, passes, signed, cell_of, cell_access, access, read_access}
use Rattle.definition.specs.Statements.{opcodes, shape_of, floats_effect, fetch_conditions, execute, does_at}
use Rattle.definition.specs.Operations.{frame_functions, entered_functions, all_present, locals_of, sound, statement}
use Rattle.padding_laws.specs.Padding.{installed}
use Rattle.definition.specs.Machine.{entities_fit, step_as, step, Stepped, Config, completed, refused_step, handed_step}
use Rattle.definition.specs.Written.{u16_bytes, u32_bytes, statement_bytes, definition_bytes, function_bytes, bytes_of, layout, header_numbers, written}
use Rattle.padding.specs.Padding.{pad_conditions, pad_text}

-- so many cells, each 7, and statement 0, AddF 28 28 29
abbrev cells_of : ℕ → Contents
cells_of n =
    record {
      statements = record { opcode = 6; arg1 = 28; arg2 = 28; arg3 = 29 } ∷ [];
      globaldefs = [];
      fielddefs = [];
      functions = [];
      strings = 0 ∷ [];
      globals = replicate n 7;
      entityfields = 105;
    }

abbrev file_with : ℕ → List ℕ
file_with n = written 5927 (cells_of n)

-- all that an example computes with
unfoldable computing : Unit {0}
unfolding judge guard pad_conditions pad_text
    byte_at u16_at u32_at file_of lumps_fit records contents_at builtin_number
    each header_conditions record_conditions cell_conditions loaded same_file recorded_in program_with
    u16_bytes u32_bytes statement_bytes definition_bytes function_bytes bytes_of layout header_numbers written
    lookup scalar passes signed cell_of cell_access access read_access opcodes shape_of floats_effect fetch_conditions execute does_at
    entities_fit settings_fit step_as step frame_functions entered_functions all_present locals_of sound statement
computing = tt

refuses_35 : judge (pad_conditions (file_with 35)) ≡ 10
unfolding computing
refuses_35 = refl

admits_36 : judge (pad_conditions (file_with 36)) ≡ 0
unfolding computing
admits_36 = refl

-- 36 cells of 7 and 28 of 0
abbrev longer : Contents
longer =
    record {
      statements = (cells_of 36).statements;
      globaldefs = [];
      fielddefs = [];
      functions = [];
      strings = 0 ∷ [];
      globals = replicate 36 7 ++ replicate 28 0;
      entityfields = 105;
    }

writes_36 : pad_text (file_with 36) ≡ written 5927 longer
unfolding computing
writes_36 = refl

-- the number of its refusal; 0 where it completes
abbrev number_of : Stepped → ℕ
number_of (completed c) = 0
number_of (refused_step n) = n
number_of (handed_step h) = 99

abbrev started : List ℕ → ℕ → Config
started file n = loaded standard file 0 (replicate n 0) (replicate 2048 0) []

-- the law on statements isn't empty: with 36 the statement of a file of 36 cells completes; with 64 it is refused 13
completes_36 : number_of (statement (installed (file_with 36)) (started (file_with 36) 36)) ≡ 0
unfolding computing
completes_36 = refl

refused_36 : number_of (statement (program_of (file_with 36)) (started (file_with 36) 64)) ≡ 13
unfolding computing
refused_36 = refl
