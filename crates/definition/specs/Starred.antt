-- THE STARRED SITUATIONS of document 01, as rows of one table that is computed from the definition, with some of its other sentences. Each row starts
-- from the bytes of a file, and goes on by the operations that a host calls, with check 13 in each.
use Rattle.std.specs.Prelude.{ℕ, zero, suc, ◌+◌, ◌-◌, ◌*◌, ◌/◌, ◌%◌, List, [], ◌∷◌, ◌++◌, Bool, true, false, ◌&&◌, ℤ, pos, negsuc, length, get_or, set, take, drop, replicate, eqb}
use Prim.Native.String.{String}
use Rattle.std.specs.Float.Ieee as Ieee
use Rattle.definition.specs.declared.Statement.{Statement}
use Rattle.definition.specs.declared.Definition.{Definition}
use Rattle.definition.specs.declared.FunctionDef.{FunctionDef}
use Rattle.definition.specs.declared.FileRecord.{FileRecord}
use Rattle.definition.specs.declared.StackFrame.{StackFrame}
use Rattle.definition.specs.Checks.{judge, Checked, refused, accepted, guard}
use Rattle.definition.specs.Floats.{rounding_of}
use Rattle.definition.specs.File.{byte_at, u16_at, u32_at, file_of, lumps_fit, records, Contents, contents_at, builtin_number, no_function, settings_fit, standard}
use Rattle.definition.specs.Cells.{float, entity, lookup, scalar, passes, signed, cell_of, cell_access, vector_access, access, read_access, field_cell_access, field_access}
use Rattle.definition.specs.Statements.{shape_of, floats_effect, vector_result, vectors_effect, vectors_to_float_effect, negates_v_effect, stores_effect, stores_v_effect, branches_do, call_of, call_does}
use Rattle.definition.specs.Statements.{fetch_conditions, execute, does_at, value_moved, loads_effect, addresses_effect, stores_p_effect}
use Rattle.definition.specs.Machine.{Program, Config, zero_frame, entities_fit, present, copied, successive, arguments, copies_present}
use Rattle.definition.specs.Machine.{entry_conditions, entered, leave_conditions, left, Stepped, completed, refused_step, handed_step, step_as, step, run_for}
use Rattle.definition.specs.Load.{each, header_conditions, record_conditions, cell_conditions, loaded, load, same_file, recorded_in, program_with, program_of}
use Rattle.definition.specs.Operations.{frame_functions, entered_functions, all_present, locals_of, sound}
use Rattle.definition.specs.Operations.{host_enter, statement, run_conditions, run, carry_on_conditions, carry_on, left_times, leavings_conditions, abandon_conditions, abandon, raw_read, raw_write}
use Rattle.definition.specs.Answers.{answer_of, outcome, refusal_number, outcome_word, outcome_detail, letters}

-- ---- an assembler: the bytes of a file with these contents

abbrev u16 : ℕ → List ℕ
u16 x = x % 256 ∷ x / 256 % 256 ∷ []

abbrev u32 : ℕ → List ℕ
u32 x = u16 (x % 65536) ++ u16 (x / 65536)

abbrev bytes : {A : Type 0} → (A → List ℕ) → List A → List ℕ
bytes write [] = []
bytes write (x ∷ xs) = write x ++ bytes write xs

abbrev statement_bytes : Statement → List ℕ
statement_bytes st = bytes u16 (st.opcode ∷ st.arg1 ∷ st.arg2 ∷ st.arg3 ∷ [])

abbrev definition_bytes : Definition → List ℕ
definition_bytes d = bytes u16 (d.kind ∷ d.offset ∷ []) ++ u32 d.name

-- with the profile number 0
abbrev function_bytes : FunctionDef → List ℕ
function_bytes d = bytes u32 (d.first ∷ d.start ∷ d.locals ∷ 0 ∷ d.name ∷ d.srcfile ∷ d.argc ∷ []) ++ d.argsz

-- the lumps one behind the other, the cells first: to read a byte costs by its place
abbrev pub assembled : Contents → List ℕ
assembled k =
    let cells : ℕ = 60 in
    let statements = cells + 4 * length k.globals in
    let globaldefs = statements + 8 * length k.statements in
    let fielddefs = globaldefs + 8 * length k.globaldefs in
    let functions = fielddefs + 8 * length k.fielddefs in
    let strings = functions + 36 * length k.functions in
    bytes u32 (6 ∷ 5927 ∷ [])
    ++ bytes u32 (statements ∷ length k.statements ∷ globaldefs ∷ length k.globaldefs ∷ fielddefs ∷ length k.fielddefs ∷ [])
    ++ bytes u32 (functions ∷ length k.functions ∷ strings ∷ length k.strings ∷ cells ∷ length k.globals ∷ k.entityfields ∷ [])
    ++ bytes u32 k.globals
    ++ bytes statement_bytes k.statements
    ++ bytes definition_bytes k.globaldefs
    ++ bytes definition_bytes k.fielddefs
    ++ bytes function_bytes k.functions
    ++ k.strings

-- the file with these bytes from a place on
abbrev overwritten : ℕ → List ℕ → List ℕ → List ℕ
overwritten at xs file = take at file ++ xs ++ drop (at + length xs) file

-- ---- contents

abbrev pub op : ℕ → ℕ → ℕ → ℕ → Statement
op opcode a b c = record { opcode = opcode; arg1 = a; arg2 = b; arg3 = c }

abbrev mul_v : ℕ → ℕ → ℕ → Statement
mul_v = op 2

abbrev div : ℕ → ℕ → ℕ → Statement
div = op 5

abbrev add_f : ℕ → ℕ → ℕ → Statement
add_f = op 6

abbrev add_v : ℕ → ℕ → ℕ → Statement
add_v = op 7

abbrev store_f : ℕ → ℕ → ℕ → Statement
store_f = op 31

abbrev store_v : ℕ → ℕ → ℕ → Statement
store_v = op 32

abbrev pub return : ℕ → ℕ → ℕ → Statement
return = op 43

abbrev not_v : ℕ → ℕ → ℕ → Statement
not_v = op 45

abbrev if : ℕ → ℕ → ℕ → Statement
if = op 49

abbrev pub call : ℕ → ℕ → ℕ → Statement
call = op 51

abbrev goto : ℕ → ℕ → ℕ → Statement
goto = op 61

abbrev bit_and : ℕ → ℕ → ℕ → Statement
bit_and = op 64

abbrev bit_or : ℕ → ℕ → ℕ → Statement
bit_or = op 65

-- first statement, first local cell, local count, argument count, argument sizes
abbrev pub fn : ℕ → ℕ → ℕ → ℕ → List ℕ → FunctionDef
fn first start locals argc sizes =
    record { first = first; start = start; locals = locals; name = 0; srcfile = 0; argc = argc; argsz = take 8 (sizes ++ replicate 8 0) }

-- first statement, name, source file
abbrev named : ℕ → ℕ → ℕ → FunctionDef
named first name srcfile = record { first = first; start = 0; locals = 0; name = name; srcfile = srcfile; argc = 0; argsz = replicate 8 0 }

abbrev pub define : ℕ → ℕ → Definition
define kind cell = record { kind = kind; offset = cell; name = 0 }

abbrev define_named : ℕ → ℕ → Definition
define_named kind name = record { kind = kind; offset = 28; name = name }

-- from statement 1 and function 1 on; statement 0 is Done 0 0 0, function 0 is all 0
abbrev pub typed_program : List Definition → List Statement → List FunctionDef → List ℕ → Contents
typed_program definitions statements functions cells =
    record {
      statements = op 0 0 0 0 ∷ statements;
      globaldefs = definitions;
      fielddefs = [];
      functions = fn 0 0 0 0 [] ∷ functions;
      strings = 0 ∷ [];
      globals = cells;
      entityfields = 105;
    }

abbrev pub program : List Statement → List FunctionDef → List ℕ → Contents
program = typed_program []

abbrev pub numbers : ℕ → ℕ → List ℕ
numbers zero a = []
numbers (suc n) a = a ∷ numbers n (a + 1)

-- these functions, statements, global and field definitions, with one byte of strings
abbrev holding : List FunctionDef → List Statement → List Definition → List Definition → ℕ → ℕ → Contents
holding functions statements globaldefs fielddefs cells entityfields =
    record {
      statements = statements;
      globaldefs = globaldefs;
      fielddefs = fielddefs;
      functions = functions;
      strings = 0 ∷ [];
      globals = numbers cells 0;
      entityfields = entityfields;
    }

-- 64 cells, each with its own number in it
abbrev pub numbered : List ℕ
numbered = numbers 64 0

-- the numbered cells, but these from cell a on
abbrev pub cells_with : ℕ → List ℕ → List ℕ
cells_with a [] = numbered
cells_with a (x ∷ xs) = set (cells_with (a + 1) xs) a x

-- ---- what is seen: numbers, or the number of the refusal at which it ends

abbrev pub Seen : Type 0
Seen = Checked (List ℕ)

abbrev pub and_then : {A B : Type 0} → Checked A → (A → Checked B) → Checked B
and_then (refused n) rest = refused n
and_then (accepted a) rest = rest a

abbrev pub also : List ℕ → Seen → Seen
also xs seen = and_then seen (λ ys. accepted (xs ++ ys))

-- a negative position is seen as no number
abbrev position : ℤ → List ℕ
position (pos n) = n ∷ []
position (negsuc n) = []

-- the number of the refusal, 0 where there is none
abbrev number_of : {A : Type 0} → Checked A → ℕ
number_of x = refusal_number (answer_of x)

abbrev mapped : {A B : Type 0} → (A → B) → List A → List B
mapped f [] = []
mapped f (x ∷ xs) = f x ∷ mapped f xs

-- ---- scenarios: what is seen from a configuration on

abbrev pub Scenario : Type 0
Scenario = Program → Config → Seen

infixr 5 ◌and◌
abbrev pub ◌and◌ : Scenario → Scenario → Scenario
◌and◌ first second P c = and_then (first P c) (λ xs. also xs (second P c))

-- position, function, depth, saved
abbrev pub state : Scenario
state P c = accepted (position c.state.pc ++ (c.state.function ∷ c.state.depth ∷ c.state.saved ∷ []))

-- the function and the position of a frame
abbrev frame : ℕ → Scenario
frame i P c = let f = get_or c.state.frames i zero_frame in accepted (f.func_id ∷ position f.instr_id)

-- the lent cells from a on, those past the file's count too
abbrev pub lent : ℕ → Scenario
lent a P c = accepted (drop a c.cells)

-- the first n cells of the saved store
abbrev store : ℕ → Scenario
store n P c = accepted (take n c.saved)

-- n cells from a on
abbrev pub cells : ℕ → ℕ → Scenario
cells zero a P c = accepted []
cells (suc n) a P c = and_then (raw_read P (pos a) c) (λ x. also (x ∷ []) (cells n (a + 1) P c))

abbrev pub write : ℕ → ℕ → Scenario → Scenario
write a x rest P c = and_then (raw_write P (pos a) x c) (rest P)

abbrev pub enter : ℕ → Scenario → Scenario
enter f rest P c = and_then (host_enter P (pos f) c) (rest P)

abbrev enter_times : ℕ → ℕ → Scenario → Scenario
enter_times zero f rest = rest
enter_times (suc n) f rest = enter f (enter_times n f rest)

-- an entry that may be refused: its number, 0 where there is none, and what is seen after it
abbrev pub try_to_enter : ℕ → Scenario → Scenario
try_to_enter f rest P c =
    let o = outcome c (host_enter P (pos f) c) in
    also (refusal_number o.answer ∷ []) (rest P o.config)

-- nothing here is handed over, and 0 is no refusal's number
abbrev completion : Stepped → Checked Config
completion (completed c) = accepted c
completion (refused_step n) = refused n
completion (handed_step h) = refused 0

abbrev pub complete : Scenario → Scenario
complete rest P c = and_then (completion (statement P c)) (rest P)

-- a run: the letters of the outcome, the detail, the statements, and what is seen after it
abbrev run_saying : ℤ → ℤ → Scenario → Scenario
run_saying target limit rest P c =
    let r = run P target limit c in
    also (letters (outcome_word r.answer) ++ (outcome_detail r.answer ∷ r.count ∷ [])) (rest P r.config)

-- to depth 0 with limit 99,999
abbrev pub run_to_end : Scenario → Scenario
run_to_end = run_saying (pos 0) (pos 99999)

-- a run: its detail and its statements, and what is seen after it
abbrev pub run_by : ℤ → ℤ → Scenario → Scenario
run_by target limit rest P c = let r = run P target limit c in also (outcome_detail r.answer ∷ r.count ∷ []) (rest P r.config)

abbrev pub carry : Scenario → Scenario
carry rest P c = and_then (carry_on P c) (rest P)

abbrev abandon_to : ℤ → Scenario → Scenario
abandon_to target rest P c = and_then (abandon P target c) (rest P)

-- every operation, with an argument that its own row refuses: entry, statement, run, carry on, abandon, raw read, raw write
abbrev pub every_operation : Scenario
every_operation P c =
    let none = negsuc 0 in
    accepted
    (number_of (host_enter P none c)
    ∷ number_of (completion (statement P c))
    ∷ outcome_detail (run P none (pos 0) c).answer
    ∷ number_of (carry_on P c)
    ∷ number_of (abandon P none c)
    ∷ number_of (raw_read P none c)
    ∷ number_of (raw_write P none 0 c)
    ∷ [])

-- a state that a host made up: this file, function, depth, saved count and, from the lowest frame on, these functions in the frames
abbrev made_up : FileRecord → ℕ → ℕ → ℕ → List ℕ → Scenario → Scenario
made_up file function depth saved frames rest P c =
    let frame : ℕ → StackFrame = λ f. record { instr_id = pos 0; func_id = f } in
    rest P
    (record {
      state =
          record {
            file = file;
            settings = c.state.settings;
            pc = c.state.pc;
            function = function;
            depth = depth;
            saved = saved;
            entity_count = c.state.entity_count;
            frames = take 31 (mapped frame frames ++ replicate 31 zero_frame);
          };
      cells = c.cells;
      saved = c.saved;
      entities = c.entities;
    })

-- buffers of which a host lends only so many cells, and so many of the saved store
abbrev pub lending : ℕ → ℕ → Scenario → Scenario
lending cells saved rest P c = rest P (record { state = c.state; cells = take cells c.cells; saved = take saved c.saved; entities = c.entities })

-- a load of these bytes, which is lent two cells more than the file has, and what is seen after it, with the bytes that then stand there
abbrev from_then : List ℕ → List ℕ → Scenario → Seen
from_then file then scenario =
    let P = program_of then in
    and_then (load standard file (pos 0) (replicate ((file_of file).globals.count + 2) 0xffffffff) (replicate 2048 0xeeeeeeee) []) (scenario P)

-- of the file with these contents
abbrev pub from : Contents → Scenario → Seen
from k = let file = assembled k in from_then file file

-- a load of these bytes, which is lent so many cells and a saved store of so many
abbrev loading : List ℕ → ℕ → ℕ → Seen
loading file cells saved = and_then (load standard file (pos 0) (replicate cells 0) (replicate saved 0) []) (state (program_of file))

-- ---- what several rows share

-- a function with no locals and no arguments, at statement 1
abbrev pub plain : FunctionDef
plain = fn 1 0 0 0 []

-- statement 1, in function 1, with these cells from 28 on
abbrev after : Statement → List ℕ → Scenario → Seen
after st xs rest = from (program (st ∷ []) (plain ∷ []) (cells_with 28 xs)) (enter 1 (complete rest))

-- function 1 alone
abbrev entering : FunctionDef → Scenario → Seen
entering d rest = from (program [] (d ∷ []) numbered) (enter 1 rest)

-- n entries of a function with one local
abbrev at_depth : ℕ → Scenario → Seen
at_depth n rest = from (program [] (fn 1 30 1 0 [] ∷ []) numbered) (enter_times n 1 rest)

-- 20 entries of a function with 100 locals; functions 2 and 3 have 48 and 49
abbrev saved2000 : Scenario → Seen
saved2000 rest = from (program [] (fn 1 0 100 0 [] ∷ fn 1 0 48 0 [] ∷ fn 1 0 49 0 [] ∷ []) (numbers 100 0)) (enter_times 20 1 rest)

-- a float read of cell 28, with these definitions
abbrev reading : List Definition → Seen
reading definitions = from (typed_program definitions (store_f 28 30 0 ∷ []) (plain ∷ []) numbered) (enter 1 (complete (cells 1 30)))

-- "64 cells, cell 28 3fc00000, 29 40100000, others 0": the file that the show program's line is given for
abbrev show : Scenario → Seen
show = from (program (add_f 28 29 30 ∷ return 30 0 0 ∷ []) (fn 1 30 1 0 [] ∷ []) (set (set (replicate 64 0) 28 0x3fc00000) 29 0x40100000))

-- function 1 calls function 2, which is in cell 40 and has cell 30 for its local; function 2 stores to it, jumps over a statement and returns it
abbrev nested : Scenario → Seen
nested rest =
    from
    (program (call 40 0 0 ∷ return 28 0 0 ∷ store_f 29 30 0 ∷ goto 2 0 0 ∷ store_f 64 0 0 ∷ return 30 0 0 ∷ []) (plain ∷ fn 3 30 1 0 [] ∷ []) (set numbered 40 2))
    (enter 1 rest)

-- function 1 calls function 2, which calls itself and then function 3: each time the list of functions from cell 40 on is moved down by one, and the
-- local, cell 30, becomes the function to be called
abbrev reentered : Scenario → Seen
reentered rest =
    from
    (program
    (call 40 0 0 ∷ return 28 0 0 ∷ store_v 41 40 0 ∷ store_f 40 30 0 ∷ call 40 0 0 ∷ return 30 0 0 ∷ store_f 29 30 0 ∷ return 30 0 0 ∷ [])
    (plain ∷ fn 3 30 1 0 [] ∷ fn 7 30 2 0 [] ∷ [])
    (cells_with 40 (2 ∷ 2 ∷ 3 ∷ [])))
    (enter 1 rest)

-- a Call of the builtin 35
abbrev builtin35 : Contents
builtin35 = program (call 40 0 0 ∷ []) (plain ∷ fn 0xffffffdd 0 0 0 [] ∷ []) (set numbered 40 2)

-- of which the bytes say, after the load, that it is the builtin 5
abbrev builtin5 : Scenario → Seen
builtin5 rest = from_then (assembled builtin35) (assembled (program (call 40 0 0 ∷ []) (plain ∷ fn 0xfffffffb 0 0 0 [] ∷ []) (set numbered 40 2))) (enter 1 rest)

-- in function 1 is statement 1, of which the bytes say, after the load, that its opcode is 66
abbrev opcode66 : Scenario → Seen
opcode66 rest =
    let file : ℕ → List ℕ = λ opcode. assembled (program (op opcode 0 0 0 ∷ []) (plain ∷ []) numbered) in
    from_then (file 60) (file 66) (enter 1 rest)

-- 64 cells, and nothing but statement 0 and function 0: 361 bytes
abbrev least : List ℕ
least = assembled (program [] [] (numbers 64 0))

-- the least file with these bytes from a place on
abbrev least_with : ℕ → List ℕ → Seen
least_with at xs = loading (overwritten at xs least) 64 2048

-- these functions, statements, global and field definitions, in a file with 63 cells
abbrev records63 : List FunctionDef → List Statement → List Definition → List Definition → Seen
records63 functions statements globaldefs fielddefs = loading (assembled (holding functions statements globaldefs fielddefs 63 105)) 64 2048

-- each lump of the least file moved, so that it ends so many bytes past the end: the place of its offset in the header, its count and its size
abbrev ending_past : ℕ → List ℕ
ending_past n =
    let moved : ℕ → ℕ → ℕ → ℕ = λ at count size. number_of (least_with at (bytes u32 ((361 + n - count * size) ∷ count ∷ []))) in
    moved 8 1 8 ∷ moved 16 1 8 ∷ moved 24 1 8 ∷ moved 32 1 36 ∷ moved 40 1 1 ∷ moved 48 64 4 ∷ []

-- for check 13. Function 1 has one local, function 2 has 2,049, function 3 has -1; statement 0 is refused 15; every number of the header but version and
-- check number may be one less
abbrev thirteen : List ℕ
thirteen =
    assembled
    (holding (no_function ∷ fn 0 30 1 0 [] ∷ fn 0 0 2049 0 [] ∷ fn 0 0 0xffffffff 0 [] ∷ []) (store_f 99 0 0 ∷ []) (define 0 0 ∷ []) (define 0 0 ∷ []) 65 106)

-- the number at this place of its header is one less, at the first read after the load
abbrev one_less : ℕ → ℕ
one_less at = number_of (from_then thirteen (overwritten at ((byte_at thirteen at - 1) ∷ []) thirteen) (cells 1 0))

-- what every operation gives in a state that a host made up, over the bytes that it records
abbrev made_up_over : List ℕ → ℕ → ℕ → ℕ → List ℕ → Seen
made_up_over file function depth saved frames = from_then thirteen file (made_up (file_of file) function depth saved frames every_operation)

abbrev all13 : Seen
all13 = accepted (replicate 7 13)

-- what the rows of the operations refuse there, 13 apart
abbrev own : Seen
own = accepted (20 ∷ 15 ∷ 28 ∷ 27 ∷ 29 ∷ 15 ∷ 15 ∷ [])

-- ---- the table

-- words of the paper, what the definition gives, what the paper says
pub data Row : Type 0 where
  row : String → Seen → Seen → Row

abbrev pub same_numbers : List ℕ → List ℕ → Bool
same_numbers [] [] = true
same_numbers [] (y ∷ ys) = false
same_numbers (x ∷ xs) [] = false
same_numbers (x ∷ xs) (y ∷ ys) = eqb x y && same_numbers xs ys

abbrev pub same : Seen → Seen → Bool
same (refused m) (refused n) = eqb m n
same (refused m) (accepted ys) = false
same (accepted xs) (refused n) = false
same (accepted xs) (accepted ys) = same_numbers xs ys

abbrev pub all : List Row → Bool
all [] = true
all (row words gives says ∷ rows) = same gives says && all rows

-- the starred situations, and the show program's line
abbrev pub situations : List Row
situations =
    row "BitAnd 2147483648.0, 1.0: 1.0" (after (bit_and 28 29 30) (0x4f000000 ∷ 0x3f800000 ∷ []) (cells 1 30)) (accepted (0x3f800000 ∷ []))
    ∷ row "BitOr 16777216.0, 1.0: 16777216.0" (after (bit_or 28 29 30) (0x4b800000 ∷ 0x3f800000 ∷ []) (cells 1 30)) (accepted (0x4b800000 ∷ []))
    ∷ row "BitOr -1.5, 0.0: -1.0" (after (bit_or 28 29 30) (0xbfc00000 ∷ 0 ∷ []) (cells 1 30)) (accepted (0xbf800000 ∷ []))
    ∷ row "MulV of three -0 and three 1.0: +0"
    (after (mul_v 28 31 34) (0x80000000 ∷ 0x80000000 ∷ 0x80000000 ∷ 0x3f800000 ∷ 0x3f800000 ∷ 0x3f800000 ∷ []) (cells 1 34)) (accepted (0 ∷ []))
    ∷ row "1.0/0.0: 7f800000" (after (div 28 29 30) (0x3f800000 ∷ 0 ∷ []) (cells 1 30)) (accepted (0x7f800000 ∷ []))
    ∷ row "0.0/0.0: 7fc00000" (after (div 28 29 30) (0 ∷ 0 ∷ []) (cells 1 30)) (accepted (0x7fc00000 ∷ []))
    ∷ row "If on NaN jumps" (after (if 28 5 0) (0x7fc00000 ∷ []) (state and cells 1 28)) (accepted (6 ∷ 1 ∷ 1 ∷ 0 ∷ 0x7fc00000 ∷ []))
    ∷ row "on -0 it doesn't" (after (if 28 5 0) (0x80000000 ∷ []) (state and cells 1 28)) (accepted (2 ∷ 1 ∷ 1 ∷ 0 ∷ 0x80000000 ∷ []))
    ∷ row "Return 0: cells 1, 2, 3 become cell 0"
    (from (program (return 0 0 0 ∷ []) (plain ∷ []) (numbers 64 100)) (enter 1 (complete (cells 4 0)))) (accepted (100 ∷ 100 ∷ 100 ∷ 100 ∷ []))
    ∷ row "64 cells: 63 is read" (from (program [] [] numbered) (cells 1 63)) (accepted (63 ∷ []))
    ∷ row "64 refused 15" (from (program [] [] numbered) (cells 1 64)) (refused 15)
    ∷ row "Entry at depth 30 accepted" (at_depth 30 (enter 1 state)) (accepted (1 ∷ 1 ∷ 31 ∷ 31 ∷ []))
    ∷ row "at 31 refused 22" (at_depth 31 (enter 1 state)) (refused 22)
    ∷ row "2,000 saved: 48 locals accepted" (saved2000 (enter 2 state)) (accepted (1 ∷ 2 ∷ 21 ∷ 2048 ∷ []))
    ∷ row "49 refused 23" (saved2000 (enter 3 state)) (refused 23)
    ∷ row "Sizes 1 and 3, first local 40: cell 40 from 4; 41, 42, 43 from 7, 8, 9"
    (entering (fn 1 40 4 2 (1 ∷ 3 ∷ [])) (cells 4 40)) (accepted (4 ∷ 7 ∷ 8 ∷ 9 ∷ []))
    ∷ row "StoreV 40 to 41, untyped cells: 41 to 43 become cell 40"
    (after (store_v 40 41 0) [] (cells 4 40)) (accepted (40 ∷ 40 ∷ 40 ∷ 40 ∷ []))
    -- the show program's line, in which 101 110 100 101 100 is "ended"
    ∷ row "ended,0,2,0,0,0,0,40700000,00000000,00000000"
    (show (enter 1 (run_to_end (state and cells 3 1))))
    (accepted (101 ∷ 110 ∷ 100 ∷ 101 ∷ 100 ∷ 0 ∷ 2 ∷ 0 ∷ 0 ∷ 0 ∷ 0 ∷ 0x40700000 ∷ 0 ∷ 0 ∷ []))
    ∷ []

-- what a load leaves, and what it refuses: a file with two defects is refused for the first
abbrev pub loads : List Row
loads =
    row "Position, function and depths start at 0" (show state) (accepted (0 ∷ 0 ∷ 0 ∷ 0 ∷ []))
    ∷ row "A load fills the lent cells from 0 and leaves those past the file's count"
    (from (program [] [] numbered) (lent 62)) (accepted (62 ∷ 63 ∷ 0xffffffff ∷ 0xffffffff ∷ []))
    ∷ row "A buffer written in part keeps the rest: the saved store at a load" (from (program [] [] numbered) (store 2)) (accepted (0xeeeeeeee ∷ 0xeeeeeeee ∷ []))
    ∷ row "Frames start as zeros" (show (frame 0 and frame 30)) (accepted (0 ∷ 0 ∷ 0 ∷ 0 ∷ []))
    ∷ row "1: length under 60, before 2" (loading (replicate 59 0) 64 2048) (refused 1)
    ∷ row "1: length 60" (loading (replicate 60 0) 64 2048) (refused 2)
    ∷ row "2: version, before 3" (least_with 0 (bytes u32 (7 ∷ 0 ∷ []))) (refused 2)
    ∷ row "3: check number, before 4" (least_with 4 (bytes u32 (5926 ∷ 0x80000000 ∷ []))) (refused 3)
    ∷ row "4: lump negative: its offset" (least_with 24 (u32 0x80000000)) (refused 4)
    ∷ row "an empty lump may have any non-negative offset" (least_with 24 (u32 0x7fffffff)) (accepted (0 ∷ 0 ∷ 0 ∷ 0 ∷ []))
    ∷ row "4: lump negative: its count" (least_with 28 (u32 0xffffffff)) (refused 4)
    ∷ row "4: lump past the end; Record sizes: 8, 8, 8, 36, 1, 4 bytes" (accepted (ending_past 1)) (accepted (replicate 6 4))
    ∷ row "Lumps may overlap; one that ends with the file" (accepted (ending_past 0)) (accepted (replicate 6 0))
    ∷ row "5: builtin, before 6" (records63 (named 0xfffffffb 1 0 ∷ []) [] [] []) (refused 5)
    ∷ row "6: name below 0, before a later function's 5" (records63 (named 0 0xffffffff 0 ∷ named 0xfffffffb 0 0 ∷ []) [] [] []) (refused 6)
    ∷ row "6: name not below the string length, before 7" (records63 (named 0 1 0 ∷ []) (op 66 0 0 0 ∷ []) [] []) (refused 6)
    ∷ row "6: source file below 0" (records63 (named 0 0 0xffffffff ∷ []) [] [] []) (refused 6)
    ∷ row "6: source file not below the string length" (records63 (named 0 0 1 ∷ []) [] [] []) (refused 6)
    ∷ row "7: opcode, before a global definition's 6" (records63 [] (op 66 0 0 0 ∷ []) (define_named 0 1 ∷ []) []) (refused 7)
    ∷ row "global definitions, 6: name, before 8" (records63 [] [] (define_named 8 1 ∷ []) []) (refused 6)
    ∷ row "global definitions, 8: type over 7, flag apart, before a field definition's 6"
    (records63 [] [] (define_named 0x8008 0 ∷ []) (define_named 0 1 ∷ [])) (refused 8)
    ∷ row "field definitions, 6: name, before 9" (records63 [] [] (define_named 0x8007 0 ∷ []) (define_named 0x8008 1 ∷ [])) (refused 6)
    ∷ row "field definitions, 9: save flag in a field definition, before 8" (records63 [] [] [] (define_named 0x8008 0 ∷ [])) (refused 9)
    ∷ row "field definitions, 8: type over 7, before 10" (records63 [] [] [] (define_named 8 0 ∷ [])) (refused 8)
    ∷ row "10: under 64 (R-7), before 11" (least_with 52 (bytes u32 (63 ∷ 104 ∷ []))) (refused 10)
    ∷ row "11: entity cells under 105, before 12" (loading (overwritten 56 (u32 104) least) 63 2048) (refused 11)
    ∷ row "11: entity cells below 0" (least_with 56 (u32 0xffffffff)) (refused 11)
    ∷ row "12: lent cells short" (loading least 63 2048) (refused 12)
    ∷ row "12: saved store under 2,048" (loading least 64 2047) (refused 12)
    ∷ row "12: as many as there must be" (loading least 64 2048) (accepted (0 ∷ 0 ∷ 0 ∷ 0 ∷ []))
    ∷ []

-- check 13, before what each operation's own row refuses
abbrev pub checks : List Row
checks =
    row "13: not in a state that a load left" (from_then thirteen thirteen every_operation) own
    ∷ row "13: file length .. not as the state records" (from_then thirteen (thirteen ++ (0 ∷ [])) every_operation) all13
    ∷ row "13: header lumps or cells per entity not as the state records"
    (accepted (mapped one_less (8 ∷ 12 ∷ 16 ∷ 20 ∷ 24 ∷ 28 ∷ 32 ∷ 36 ∷ 40 ∷ 44 ∷ 48 ∷ 52 ∷ 56 ∷ []))) (accepted (replicate 13 13))
    ∷ row "13: version and check number are not among these" (accepted (mapped one_less (0 ∷ 4 ∷ []))) (accepted (0 ∷ 0 ∷ []))
    ∷ row "13: or outside 1" (made_up_over (take 59 thirteen) 0 0 0 []) all13
    ∷ row "13: or outside 4" (made_up_over (overwritten 44 (2 ∷ []) thirteen) 0 0 0 []) all13
    ∷ row "13: or outside 10" (made_up_over (overwritten 52 (63 ∷ []) thirteen) 0 0 0 []) all13
    ∷ row "13: or outside 11" (made_up_over (overwritten 56 (104 ∷ []) thirteen) 0 0 0 []) all13
    ∷ row "13: as many lent cells as the file's, and a saved store of 2,048" (from_then thirteen thirteen (lending 65 2048 every_operation)) own
    ∷ row "13: lent cells fewer than the file's" (from_then thirteen thirteen (lending 64 2048 every_operation)) all13
    ∷ row "13: or saved store under 2,048" (from_then thirteen thirteen (lending 65 2047 every_operation)) all13
    ∷ row "13: depth 31" (made_up_over thirteen 1 31 1 []) own
    ∷ row "13: depth over 31" (made_up_over thirteen 1 32 1 []) all13
    ∷ row "13: at depth above 0 the current one absent" (made_up_over thirteen 4 1 0 []) all13
    ∷ row "13: at depth 0 the current one is not looked at" (made_up_over thirteen 4 0 0 []) own
    ∷ row "13: every frame's .. absent" (made_up_over thirteen 1 3 1 (0 ∷ 4 ∷ 0 ∷ [])) all13
    ∷ row "13: but the lowest" (made_up_over thirteen 1 3 1 (4 ∷ 0 ∷ 0 ∷ [])) own
    ∷ row "13: or of negative local count" (made_up_over thirteen 3 1 0xffffffff []) all13
    ∷ row "13: saved count over 2,048" (made_up_over thirteen 2 1 2049 []) all13
    ∷ row "13: the sum of their local counts" (made_up_over thirteen 1 3 3 (0 ∷ 1 ∷ 1 ∷ [])) own
    ∷ row "13: saved count not the sum of their local counts, but less" (made_up_over thirteen 1 3 2 (0 ∷ 1 ∷ 1 ∷ [])) all13
    ∷ row "13: saved count not the sum of their local counts, but more" (made_up_over thirteen 1 3 4 (0 ∷ 1 ∷ 1 ∷ [])) all13
    ∷ []

-- what entries and statements refuse, and 01's "Tempting"; 114 101 102 117 115 101 100 is "refused"
abbrev pub operands : List Row
operands =
    row "21: builtin" (entering (fn 0xffffffff 0 0 0 []) state) (refused 21)
    ∷ row "24: argument count outside 0 to 8" (entering (fn 0xffffffff 0 0 0xffffffff []) state) (refused 24)
    ∷ row "24: argument count 9" (entering (fn 1 40 8 9 (replicate 8 1)) state) (refused 24)
    ∷ row "24: argument count 8, argument i from cell 4+3i" (entering (fn 1 40 8 8 (replicate 8 1)) (cells 8 40))
    (accepted (4 ∷ 7 ∷ 10 ∷ 13 ∷ 16 ∷ 19 ∷ 22 ∷ 25 ∷ []))
    ∷ row "counting the refused statement"
    (from (program (store_f 28 30 0 ∷ store_f 64 30 0 ∷ []) (plain ∷ []) numbered) (enter 1 (run_to_end state)))
    (accepted (114 ∷ 101 ∷ 102 ∷ 117 ∷ 115 ∷ 101 ∷ 100 ∷ 15 ∷ 1 ∷ 2 ∷ 1 ∷ 1 ∷ 0 ∷ []))
    ∷ row "restoring locals before copying the return"
    (from (program (store_f 28 30 0 ∷ return 30 0 0 ∷ []) (fn 1 30 1 0 [] ∷ []) numbered) (enter 1 (complete (complete (cells 3 1 and cells 1 30)))))
    (accepted (28 ∷ 31 ∷ 32 ∷ 30 ∷ []))
    ∷ row "taking the last definition: a float cell" (reading (define float 28 ∷ define entity 28 ∷ [])) (accepted (28 ∷ []))
    ∷ row "taking the last definition: an entity cell" (reading (define entity 28 ∷ define float 28 ∷ [])) (refused 16)
    ∷ row "15: cell negative, also where a definition is of cell 65535"
    (from (typed_program (define entity 65535 ∷ []) (store_f 65535 30 0 ∷ []) (plain ∷ []) numbered) (enter 1 (complete state))) (refused 15)
    ∷ row "address equal to the count: a source, one less" (after (store_f 63 30 0) [] (cells 1 30)) (accepted (63 ∷ []))
    ∷ row "address equal to the count: a source" (after (store_f 64 30 0) [] state) (refused 15)
    ∷ row "address equal to the count: a destination, one less" (after (store_f 28 63 0) [] (cells 1 63)) (accepted (28 ∷ []))
    ∷ row "address equal to the count: a destination" (after (store_f 28 64 0) [] state) (refused 15)
    ∷ row "address equal to the count: a raw write, one less"
    (from (program [] [] numbered) (write 63 7 (lent 63))) (accepted (7 ∷ 0xffffffff ∷ 0xffffffff ∷ []))
    ∷ row "address equal to the count: a raw write" (from (program [] [] numbered) (write 64 7 state)) (refused 15)
    ∷ row "address equal to the count: Return's third cell, one less" (after (return 61 0 0) [] (cells 3 1)) (accepted (61 ∷ 62 ∷ 63 ∷ []))
    ∷ row "address equal to the count: Return's third cell" (after (return 62 0 0) [] state) (refused 15)
    ∷ row "address equal to the count: a local cell, one less" (entering (fn 1 62 2 0 []) state) (accepted (1 ∷ 1 ∷ 1 ∷ 2 ∷ []))
    ∷ row "address equal to the count: a local cell" (entering (fn 1 63 2 0 []) state) (refused 15)
    ∷ row "address equal to the count: an argument cell, one less" (entering (fn 1 63 0 1 (1 ∷ [])) (cells 1 63)) (accepted (4 ∷ []))
    ∷ row "address equal to the count: an argument cell" (entering (fn 1 64 0 1 (1 ∷ [])) state) (refused 15)
    ∷ []

-- entries and returns
abbrev pub calls : List Row
calls =
    row "A Call records the position after itself" (nested (complete (state and frame 1))) (accepted (3 ∷ 2 ∷ 2 ∷ 1 ∷ 1 ∷ 2 ∷ []))
    ∷ row "a host entry the present one" (nested (enter 2 (state and frame 1))) (accepted (3 ∷ 2 ∷ 2 ∷ 1 ∷ 1 ∷ 1 ∷ []))
    ∷ row "a frame that is left becomes zeros again"
    (nested (complete (complete (complete (complete (state and frame 1 and cells 3 1 and cells 1 30))))))
    (accepted (2 ∷ 1 ∷ 1 ∷ 0 ∷ 0 ∷ 0 ∷ 29 ∷ 31 ∷ 32 ∷ 30 ∷ []))
    ∷ row "and no operation touches the others: frames that a host made up"
    (from_then thirteen thirteen
    (made_up (file_of thirteen) 1 1 1 (3 ∷ 3 ∷ 3 ∷ []) (enter 1 (frame 0 and frame 1 and frame 2 and abandon_to (pos 1) (frame 0 and frame 1 and frame 2)))))
    (accepted (3 ∷ 0 ∷ 1 ∷ 0 ∷ 3 ∷ 0 ∷ 3 ∷ 0 ∷ 0 ∷ 0 ∷ 3 ∷ 0 ∷ []))
    ∷ row "A run goes on until the call depth equals a target"
    (nested (run_to_end (state and cells 3 1)))
    (accepted (101 ∷ 110 ∷ 100 ∷ 101 ∷ 100 ∷ 0 ∷ 5 ∷ 0 ∷ 0 ∷ 0 ∷ 0 ∷ 28 ∷ 29 ∷ 30 ∷ []))
    ∷ row "Each note counts as one function entered and not yet left, also where one function has several"
    (reentered (run_by (pos 0) (pos 7) (state and frame 0 and frame 1 and frame 2 and frame 3 and frame 4 and store 5)))
    (accepted (0 ∷ 7 ∷ 7 ∷ 3 ∷ 4 ∷ 4 ∷ 0 ∷ 0 ∷ 1 ∷ 2 ∷ 2 ∷ 6 ∷ 2 ∷ 6 ∷ 0 ∷ 0 ∷ 30 ∷ 2 ∷ 3 ∷ 31 ∷ 0xeeeeeeee ∷ []))
    ∷ row "removes the newest note, and only that one"
    (reentered
    (run_by (pos 0) (pos 7) (run_by (pos 3) (pos 9) (state and frame 2 and frame 3 and cells 3 1 and cells 2 30
    and run_by (pos 2) (pos 9) (state and frame 1 and frame 2 and cells 3 1 and cells 2 30
    and run_by (pos 1) (pos 9) (state and frame 0 and frame 1 and cells 3 1 and cells 2 30
    and run_by (pos 0) (pos 9) (state and frame 0 and cells 3 1)))))))
    (accepted
    (0 ∷ 7
    ∷ 0 ∷ 2 ∷ 6 ∷ 2 ∷ 3 ∷ 2 ∷ 2 ∷ 6 ∷ 0 ∷ 0 ∷ 29 ∷ 31 ∷ 32 ∷ 3 ∷ 31
    ∷ 0 ∷ 1 ∷ 6 ∷ 2 ∷ 2 ∷ 1 ∷ 1 ∷ 2 ∷ 0 ∷ 0 ∷ 3 ∷ 31 ∷ 32 ∷ 2 ∷ 31
    ∷ 0 ∷ 1 ∷ 2 ∷ 1 ∷ 1 ∷ 0 ∷ 0 ∷ 0 ∷ 0 ∷ 0 ∷ 2 ∷ 31 ∷ 32 ∷ 30 ∷ 31
    ∷ 0 ∷ 1 ∷ 0 ∷ 0 ∷ 0 ∷ 0 ∷ 0 ∷ 0 ∷ 28 ∷ 29 ∷ 30 ∷ []))
    ∷ row "The saved store above its depth keeps what was last written"
    (reentered (run_by (pos 0) (pos 7) (abandon_to (pos 2) (state and frame 1 and frame 2 and frame 3 and cells 3 1 and cells 2 30 and store 5))))
    (accepted (0 ∷ 7 ∷ 6 ∷ 2 ∷ 2 ∷ 1 ∷ 1 ∷ 2 ∷ 0 ∷ 0 ∷ 0 ∷ 0 ∷ 1 ∷ 2 ∷ 3 ∷ 2 ∷ 31 ∷ 30 ∷ 2 ∷ 3 ∷ 31 ∷ 0xeeeeeeee ∷ []))
    ∷ row "Argument cells beyond the local range aren't restored later"
    (from (program [] (fn 0 40 1 2 (1 ∷ 1 ∷ []) ∷ []) numbered) (enter 1 (complete (cells 2 40)))) (accepted (40 ∷ 7 ∷ []))
    ∷ row "Call, 16: type" (from (typed_program (define float 40 ∷ []) (call 40 0 0 ∷ []) (plain ∷ []) (set numbered 40 1)) (enter 1 (complete state))) (refused 16)
    ∷ row "19: function 0" (after (call 0 0 0) [] state) (refused 19)
    ∷ row "20: no such function" (after (call 28 0 0) [] state) (refused 20)
    ∷ row "Call, 5 again" (builtin5 (complete state)) (refused 5)
    ∷ []

-- runs, carry on, abandon; 98 117 105 108 116 105 110 is "builtin", 111 112 99 111 100 101 is "opcode", 115 112 101 110 116 is "spent"
abbrev pub runs : List Row
runs =
    row "a builtin is then handed over"
    (from builtin35 (enter 1 (run_to_end (carry state))))
    (accepted (98 ∷ 117 ∷ 105 ∷ 108 ∷ 116 ∷ 105 ∷ 110 ∷ 35 ∷ 0 ∷ 2 ∷ 1 ∷ 1 ∷ 0 ∷ []))
    ∷ row "The position stays there until the host carries on by one"
    (from (program (op 60 0 0 0 ∷ []) (plain ∷ []) numbered) (enter 1 (run_to_end (state and carry state))))
    (accepted (111 ∷ 112 ∷ 99 ∷ 111 ∷ 100 ∷ 101 ∷ 60 ∷ 0 ∷ 1 ∷ 1 ∷ 1 ∷ 0 ∷ 2 ∷ 1 ∷ 1 ∷ 0 ∷ []))
    ∷ row "27: that statement would not be handed over" (from (program (store_f 28 30 0 ∷ []) (plain ∷ []) numbered) (enter 1 (carry state))) (refused 27)
    ∷ row "27: a Return" (from (program (return 30 0 0 ∷ []) (plain ∷ []) numbered) (enter 1 (carry state))) (refused 27)
    ∷ row "27: a Done" (from (program [] [] numbered) (carry state)) (refused 27)
    ∷ row "27: a Call that would be entered" (nested (carry state)) (refused 27)
    ∷ row "27: a Call that would be refused" (from (program (call 0 0 0 ∷ []) (plain ∷ []) numbered) (enter 1 (carry state))) (refused 27)
    ∷ row "27: with the cells as they now are"
    (from builtin35 (enter 1 (run_by (pos 0) (pos 9) (write 40 1 (carry state)))))
    (refused 27)
    ∷ row "carry on: 14, above the statements" (entering plain (carry state)) (refused 14)
    ∷ row "carry on: 14, below 0" (after (goto 0xfff0 0 0) [] (carry state)) (refused 14)
    ∷ row "carry on: 7" (opcode66 (carry state)) (refused 7)
    ∷ row "statements, and again at fetch: 7" (opcode66 (complete state)) (refused 7)
    ∷ row "outside the statements, below 0 too, it stands until a fetch refuses it 14"
    (after (goto 0xfff0 0 0) [] (state and run_by (pos 0) (pos 9) state)) (accepted (1 ∷ 1 ∷ 0 ∷ 14 ∷ 0 ∷ 1 ∷ 1 ∷ 0 ∷ []))
    ∷ row "28: limit outside 1 to 99,999, before 29"
    (entering plain (run_by (pos 9) (pos 0) (run_by (pos 9) (pos 100000) state))) (accepted (28 ∷ 0 ∷ 28 ∷ 0 ∷ 1 ∷ 1 ∷ 1 ∷ 0 ∷ []))
    ∷ row "28: limit 1" (nested (run_by (pos 0) (pos 1) state)) (accepted (0 ∷ 1 ∷ 3 ∷ 2 ∷ 2 ∷ 1 ∷ []))
    ∷ row "29: target below 0, or not below the depth"
    (entering plain (run_by (negsuc 0) (pos 1) (run_by (pos 1) (pos 1) state))) (accepted (29 ∷ 0 ∷ 29 ∷ 0 ∷ 1 ∷ 1 ∷ 1 ∷ 0 ∷ []))
    ∷ row "Spent is given when the limit's statements are completed"
    (nested (run_saying (pos 0) (pos 4) state)) (accepted (115 ∷ 112 ∷ 101 ∷ 110 ∷ 116 ∷ 0 ∷ 4 ∷ 2 ∷ 1 ∷ 1 ∷ 0 ∷ []))
    ∷ row "and the target isn't reached"
    (nested (run_saying (pos 0) (pos 5) state)) (accepted (101 ∷ 110 ∷ 100 ∷ 101 ∷ 100 ∷ 0 ∷ 5 ∷ 0 ∷ 0 ∷ 0 ∷ 0 ∷ []))
    ∷ row "abandon to a depth (leaving innermost first, no return value)"
    (nested (complete (complete (abandon_to (pos 0) (state and cells 4 0 and cells 1 30))))) (accepted (0 ∷ 0 ∷ 0 ∷ 0 ∷ 0 ∷ 1 ∷ 2 ∷ 3 ∷ 30 ∷ []))
    ∷ row "29 (abandon: above it)" (nested (abandon_to (pos 2) state)) (refused 29)
    ∷ []

-- other sentences
abbrev pub others : List Row
others =
    row "A refusal gives its number and leaves state and buffers"
    (from (program [] (fn 1 30 1 0 [] ∷ fn 0xffffffff 40 1 1 (1 ∷ []) ∷ []) numbered)
    (enter 1 (try_to_enter 2 (state and frame 1 and cells 1 40 and store 2))))
    (accepted (21 ∷ 1 ∷ 1 ∷ 1 ∷ 1 ∷ 0 ∷ 0 ∷ 40 ∷ 30 ∷ 0xeeeeeeee ∷ []))
    ∷ row "Vector arithmetic reads all before writing"
    (after (add_v 28 31 29) (0x3f800000 ∷ 0 ∷ 0 ∷ 0 ∷ 0 ∷ 0 ∷ []) (cells 4 28)) (accepted (0x3f800000 ∷ 0x3f800000 ∷ 0 ∷ 0 ∷ []))
    ∷ row "NotV writing one float" (after (not_v 28 0 31) (0 ∷ 0 ∷ 0 ∷ []) (cells 3 31)) (accepted (0x3f800000 ∷ 32 ∷ 33 ∷ []))
    ∷ []

abbrev pub rows : List Row
rows = others ++ loads ++ checks ++ runs ++ operands ++ calls ++ situations

-- all that a row computes with
unfoldable pub computing : Unit {0}
unfolding judge guard
    byte_at u16_at u32_at file_of lumps_fit records contents_at builtin_number
    Ieee.of_bits Ieee.to_bits Ieee.add Ieee.mul Ieee.div Ieee.eq Ieee.to_signed Ieee.of_int
    lookup scalar passes signed cell_of cell_access vector_access access read_access
    shape_of floats_effect vector_result vectors_effect vectors_to_float_effect negates_v_effect stores_effect stores_v_effect branches_do rounding_of call_of call_does fetch_conditions execute does_at
    field_cell_access field_access value_moved loads_effect addresses_effect stores_p_effect
    entities_fit settings_fit present copied successive arguments copies_present entry_conditions entered leave_conditions left step_as step run_for
    each header_conditions record_conditions cell_conditions loaded load same_file recorded_in program_with
    frame_functions entered_functions all_present locals_of sound host_enter statement run_conditions run carry_on_conditions carry_on left_times leavings_conditions abandon_conditions abandon raw_read raw_write
computing = tt
