-- WHAT A LOAD, AN ENTRY, A RETURN AND A RUN REFUSE, along their rows of document 01's table, and what a refusal answers, as rows of one table that is
-- computed from the definition. What a row says was worked out by hand from document 01's words.
use Rattle.std.specs.Prelude.{ℕ, zero, suc, ◌+◌, ◌-◌, List, [], ◌∷◌, ◌++◌, Bool, true, false, ◌&&◌, cond, ℤ, pos, negsuc, take, replicate, length, T, eqb}
use Prim.Native.String.{String}
use Rattle.definition.specs.declared.Statement.{Statement}
use Rattle.definition.specs.declared.Definition.{Definition}
use Rattle.definition.specs.declared.FunctionDef.{FunctionDef}
use Rattle.definition.specs.declared.Handover.TheVariants.{Builtin, Opcode}
use Rattle.definition.specs.Checks.{judge, refused, accepted}
use Rattle.definition.specs.File.{builtin_number, settings_fit, standard}
use Rattle.definition.specs.Cells.{cell_of}
use Rattle.definition.specs.Statements.{Does, next, calls, returns, refuses, hands_over, call_of}
use Rattle.definition.specs.Machine.{Fetch, Program, State, Config, entities_fit, zero_frame, present, copied, successive, arguments, copies_present}
use Rattle.definition.specs.Machine.{entry_conditions, entered, leave_conditions, return_conditions, Stepped, completed, refused_step, handed_step}
use Rattle.definition.specs.Load.{each, record_conditions}
use Rattle.definition.specs.Operations.{frame_functions, entered_functions, all_present, locals_of, sound, run_conditions}
use Rattle.definition.specs.Answers.{cells_alone, load_outcome, refusal_number, read_answer, read_value, read_refusal, statement_outcome, statement_word, statement_detail, letters}
use Rattle.definition.specs.Starred.{same_numbers}
use Rattle.laws.specs.Opcodes.{numbers, refusal_of}

-- words of the paper, what the definition gives, what the paper says
pub data Row : Type 0 where
  row : String → List ℕ → List ℕ → Row

abbrev pub all : List Row → Bool
all [] = true
all (row words gives says ∷ rows) = same_numbers gives says && all rows

abbrev mapped : {A : Type 0} → (ℕ → A) → List ℕ → List A
mapped f [] = []
mapped f (x ∷ xs) = f x ∷ mapped f xs

-- one refusal, or 0 where there is none
abbrev row_of : String → ℕ → ℕ → Row
row_of words gives says = row words (gives ∷ []) (says ∷ [])

abbrev op : ℕ → Statement
op opcode = record { opcode = opcode; arg1 = 0; arg2 = 0; arg3 = 0 }

-- first statement, first local cell, local count, argument count, argument sizes
abbrev fn : ℕ → ℕ → ℕ → ℕ → List ℕ → FunctionDef
fn first start locals argc sizes =
    record { first = first; start = start; locals = locals; name = 0; srcfile = 0; argc = argc; argsz = take 8 (sizes ++ replicate 8 0) }

abbrev named : ℕ → ℕ → FunctionDef
named name srcfile = record { first = 0; start = 0; locals = 0; name = name; srcfile = srcfile; argc = 0; argsz = replicate 8 0 }

abbrev define : ℕ → ℕ → Definition
define kind name = record { kind = kind; offset = 28; name = name }

-- ---- a load's records: "load takes records in order", each with its conditions; two bytes of strings

abbrev loading : List FunctionDef → List Statement → List Definition → List Definition → ℕ
loading functions statements globaldefs fielddefs =
    judge
    (record_conditions 2
    (record {
      statements = statements;
      globaldefs = globaldefs;
      fielddefs = fielddefs;
      functions = functions;
      strings = 0 ∷ 0 ∷ [];
      globals = [];
      entityfields = 105;
    }))

abbrev minus : ℕ → FunctionDef
minus n = fn (4294967296 - n) 0 0 0 []

-- those of the numbers that as builtins are refused
abbrev unknown : List ℕ → List ℕ
unknown [] = []
unknown (n ∷ ns) = cond (eqb (loading (minus n ∷ []) [] [] []) 5) (n ∷ unknown ns) (unknown ns)

-- "minus 1-4, 6-32, 34-38, 40-41, 43-49, 51-59, 67-70, 72-78"; "Argument count isn't checked at load"; "5", "6", "7", "6 9 8" in a record that isn't the first
abbrev records : List Row
records =
    row "builtins" (unknown (numbers 100 1)) ((5 ∷ 33 ∷ 39 ∷ 42 ∷ 50 ∷ []) ++ (60 ∷ 61 ∷ 62 ∷ 63 ∷ 64 ∷ 65 ∷ 66 ∷ 71 ∷ []) ++ numbers 22 79)
    ∷ row_of "5: the least number" (loading (fn 0x80000000 0 0 0 [] ∷ []) [] [] []) 5
    ∷ row_of "a first statement that is not negative" (loading (fn 0x7fffffff 0 0 0 [] ∷ []) [] [] []) 0
    ∷ row_of "opcodes 0 to 65" (loading [] (mapped op (numbers 66 0)) [] []) 0
    ∷ row_of "Argument count isn't checked at load" (loading (fn 1 0 0 0xffffffff [] ∷ fn 1 0 0 9 [] ∷ []) [] [] []) 0
    ∷ row_of "nor are local cells" (loading (fn 1 0xffffffff 0xffffffff 0 [] ∷ []) [] [] []) 0
    ∷ row_of "types 0 to 7" (loading [] [] (mapped (λ t. define t 1) (numbers 8 0)) (mapped (λ t. define t 1) (numbers 8 0))) 0
    ∷ row_of "types 0 to 7 with the save flag" (loading [] [] (mapped (λ t. define t 1) (numbers 8 0x8000)) []) 0
    ∷ row_of "second function, 5" (loading (named 0 0 ∷ minus 5 ∷ []) [] [] []) 5
    ∷ row_of "second function, 6: name" (loading (named 1 1 ∷ named 2 0 ∷ []) [] [] []) 6
    ∷ row_of "second function, 6: source file" (loading (named 1 1 ∷ named 0 2 ∷ []) [] [] []) 6
    ∷ row_of "second statement, 7" (loading [] (op 65 ∷ op 66 ∷ []) [] []) 7
    ∷ row_of "second statement, 7: below 0" (loading [] (op 65 ∷ op 0xffff ∷ []) [] []) 7
    ∷ row_of "second global definition, 6" (loading [] [] (define 2 0 ∷ define 2 2 ∷ []) []) 6
    ∷ row_of "second global definition, 8" (loading [] [] (define 2 0 ∷ define 8 0 ∷ []) []) 8
    ∷ row_of "second field definition, 6" (loading [] [] [] (define 2 0 ∷ define 2 2 ∷ [])) 6
    ∷ row_of "second field definition, 9" (loading [] [] [] (define 2 0 ∷ define 0x8002 0 ∷ [])) 9
    ∷ row_of "second field definition, 8" (loading [] [] [] (define 2 0 ∷ define 8 0 ∷ [])) 8
    ∷ row_of "in order: 6 of a function before 5 of the next" (loading (named 2 0 ∷ minus 5 ∷ []) [] [] []) 6
    ∷ row_of "in order: 8 of a definition before 6 of the next" (loading [] [] (define 8 0 ∷ define 2 2 ∷ []) []) 8
    ∷ row_of "in order: 8 of a field definition before 9 of the next" (loading [] [] [] (define 8 0 ∷ define 0x8002 0 ∷ [])) 8
    ∷ []

-- ---- entry and Return, over 64 cells, each with its own number in it

-- nothing of a program but its functions, and whether its engine's buffer has room for the statements
abbrev program_from : Bool → List FunctionDef → Program
program_from room functions =
    let nowhere : Fetch = record { room = room; fetching = λ p. []; does = λ p e cells. refuses 1 } in
    record {
      functions = functions;
      room = room;
      fetching = nowhere.fetching;
      does = nowhere.does;
      recorded = λ file lent. true;
      unpacked = λ buffer. nowhere;
    }

abbrev program : List FunctionDef → Program
program functions = program_from true functions

-- in function 0, at this depth, with so many saved
abbrev at : ℕ → ℕ → Config
at depth saved =
    record {
      state =
          record {
            file = cells_alone 64;
            settings = standard;
            pc = pos 7;
            function = 0;
            depth = depth;
            saved = saved;
            entity_count = 0;
            frames = replicate 31 zero_frame;
          };
      cells = numbers 64 0;
      saved = replicate 2048 0;
      entities = [];
    }

abbrev entering : FunctionDef → Config → ℕ
entering d c = judge (entry_conditions (program (d ∷ [])) 0 c)

-- what is refused along the row: "20; 22: depth is 31; 23: locals negative or saved over 2,048; 15: local cells; 24: argument count outside 0 to 8; 15:
-- argument cells; 21: builtin". Each has all the later defects beside it that it can have.
abbrev entries : List Row
entries =
    row_of "20" (judge (entry_conditions (program []) 0 (at 31 2048))) 20
    ∷ row_of "22: depth is 31" (entering (fn 0xffffffff 60 2049 9 (replicate 8 9)) (at 31 0)) 22
    ∷ row_of "23: saved over 2,048" (entering (fn 0xffffffff 60 5 9 (replicate 8 9)) (at 30 2044)) 23
    ∷ row_of "23: locals negative" (entering (fn 0xffffffff 60 0xffffffff 9 (replicate 8 9)) (at 30 0)) 23
    ∷ row_of "15: local cells" (entering (fn 0xffffffff 60 5 9 (replicate 8 9)) (at 30 2043)) 15
    ∷ row_of "24: argument count" (entering (fn 0xffffffff 60 4 9 (replicate 8 9)) (at 30 2044)) 24
    ∷ row_of "24: argument count below 0" (entering (fn 0xffffffff 60 4 0xffffffff (replicate 8 9)) (at 30 2044)) 24
    ∷ row_of "15: argument cells" (entering (fn 0xffffffff 60 4 1 (5 ∷ [])) (at 30 2044)) 15
    ∷ row_of "15: argument cells, of the second" (entering (fn 0xffffffff 60 4 2 (2 ∷ 3 ∷ [])) (at 30 2044)) 15
    ∷ row_of "15: argument cells, their sources" (entering (fn 0xffffffff 0 0 1 (61 ∷ [])) (at 30 2044)) 15
    ∷ row_of "21: builtin" (entering (fn 0xffffffff 60 4 2 (2 ∷ 2 ∷ 9 ∷ [])) (at 30 2044)) 21
    ∷ row_of "none" (entering (fn 0 60 4 2 (2 ∷ 2 ∷ 9 ∷ [])) (at 30 2044)) 0
    ∷ row_of "none: a first statement that there can't be" (entering (fn 0x7fffffff 60 4 0 []) (at 30 2044)) 0
    ∷ row_of "none: no local cells, and none is looked at" (entering (fn 0 0xffffffff 0 1 (0 ∷ [])) (at 30 2048)) 0
    ∷ []

abbrev after_entry : FunctionDef → List ℕ
after_entry d = (entered (program (d ∷ [])) 0 (pos 7) (at 0 0)).cells

-- "argument i, component j comes from cell 4+3i+j, to successive cells from the first local cell, one at a time": all the other cells stay
abbrev copies : List Row
copies =
    row "no arguments" (after_entry (fn 1 40 4 0 (1 ∷ 1 ∷ []))) (numbers 64 0)
    ∷ row "sizes 1 and 3" (after_entry (fn 1 40 0 2 (1 ∷ 3 ∷ 1 ∷ []))) (numbers 40 0 ++ (4 ∷ 7 ∷ 8 ∷ 9 ∷ []) ++ numbers 20 44)
    ∷ row "sizes 5 and 0 and 1" (after_entry (fn 1 40 0 3 (5 ∷ 0 ∷ 1 ∷ []))) (numbers 40 0 ++ (4 ∷ 5 ∷ 6 ∷ 7 ∷ 8 ∷ 10 ∷ []) ++ numbers 18 46)
    ∷ row "one at a time" (after_entry (fn 1 5 0 1 (3 ∷ []))) (numbers 5 0 ++ (4 ∷ 4 ∷ 4 ∷ []) ++ numbers 56 8)
    ∷ row "the first argument first" (after_entry (fn 1 7 0 2 (1 ∷ 1 ∷ []))) (numbers 7 0 ++ (4 ∷ 4 ∷ []) ++ numbers 55 9)
    ∷ []

-- a Call of this function, over untyped cells
abbrev calling : List FunctionDef → ℕ → ℕ
calling functions f = refusal_of (call_of functions (record { definitions = []; count = 64 }) (pos 0) f (numbers 64 0))

-- "Call, 19: function 0; 20: no such function; 5 again"
abbrev called : List Row
called =
    row_of "19, in a file without functions" (calling [] 0) 19
    ∷ row_of "20, in a file without functions" (calling [] 1) 20
    ∷ row_of "19: function 0 is minus 5" (calling (minus 5 ∷ []) 0) 19
    ∷ row_of "5 again" (calling (minus 1 ∷ minus 5 ∷ []) 1) 5
    ∷ []

-- in function 0, which has so many locals from a cell on
abbrev returning : ℕ → ℕ → ℕ → Config → ℕ
returning a start locals c = judge (return_conditions (program (fn 0 start locals 0 [] ∷ [])) (cell_of a) c)

-- "15: operand cells; 25: depth 0; 26: saved cells fewer than the locals; 15: local cells"
abbrev leavings : List Row
leavings =
    row_of "15: operand cells" (returning 62 63 2 (at 0 1)) 15
    ∷ row_of "15: operand cell negative" (returning 0xffff 63 2 (at 0 1)) 15
    ∷ row_of "25: depth 0" (returning 61 63 2 (at 0 1)) 25
    ∷ row_of "26: saved cells fewer than the locals" (returning 61 63 2 (at 1 1)) 26
    ∷ row_of "15: local cells" (returning 61 63 2 (at 1 2)) 15
    ∷ row_of "none" (returning 61 62 2 (at 1 2)) 0
    ∷ []

-- ---- a run, from depth 1 to 0

abbrev running_from : Bool → ℤ → ℤ → Config → ℕ
running_from room target limit c = judge (run_conditions (program_from room (fn 0 0 0 0 [] ∷ [])) target limit c)

abbrev running : ℤ → ℤ → ℕ
running target limit = running_from true target limit (at 1 0)

-- "28: limit outside 1 to 99,999; 29: target below 0, or not below the depth"; R-12: 37 "after 13 and before 28"
abbrev runs : List Row
runs =
    row_of "28: limit 0" (running (negsuc 0) (pos 0)) 28
    ∷ row_of "28: limit below 0" (running (pos 0) (negsuc 0)) 28
    ∷ row_of "28: limit 100,000" (running (pos 0) (pos 100000)) 28
    ∷ row_of "29: target below 0" (running (negsuc 0) (pos 1)) 29
    ∷ row_of "29: not below the depth" (running (pos 1) (pos 99999)) 29
    ∷ row_of "37 before 28" (running_from false (negsuc 0) (pos 0) (at 1 0)) 37
    ∷ row_of "37, nothing else" (running_from false (pos 0) (pos 1) (at 1 0)) 37
    ∷ row_of "13 before 37" (running_from false (pos 0) (pos 1) (at 1 1)) 13
    ∷ row_of "none: limit 1" (running (pos 0) (pos 1)) 0
    ∷ row_of "none: limit 99,999" (running (pos 0) (pos 99999)) 0
    ∷ []

-- ---- answers

abbrev said : Stepped → List ℕ
said s = let o = statement_outcome (at 1 0) s in letters (statement_word o.answer) ++ (statement_detail o.answer ∷ length o.config.cells ∷ [])

abbrev state_numbers : State → List ℕ
state_numbers s = s.file.length ∷ s.file.globals.count ∷ s.file.entityfields ∷ s.function ∷ s.depth ∷ s.saved ∷ s.entity_count ∷ length s.frames ∷ []

abbrev refused_load : List ℕ
refused_load =
    let o = load_outcome (7 ∷ 8 ∷ []) (9 ∷ []) (5 ∷ 6 ∷ []) (refused 4) in
    refusal_number o.answer ∷ o.config.cells ++ o.config.saved ++ o.config.entities ++ state_numbers o.config.state

-- "A refusal gives its number and leaves state and buffers"; "a handed-over answer says builtin with its number, or opcode with its number". The words are
-- "refused", "builtin", "opcode" and "completed" in ASCII; a refused load leaves a state of zeros (docs/DECISIONS.md 4).
abbrev answers : List Row
answers =
    row "a refused statement" (said (refused_step 15)) (114 ∷ 101 ∷ 102 ∷ 117 ∷ 115 ∷ 101 ∷ 100 ∷ 15 ∷ 64 ∷ [])
    ∷ row "a builtin" (said (handed_step (Builtin 35))) (98 ∷ 117 ∷ 105 ∷ 108 ∷ 116 ∷ 105 ∷ 110 ∷ 35 ∷ 64 ∷ [])
    ∷ row "an opcode" (said (handed_step (Opcode 60))) (111 ∷ 112 ∷ 99 ∷ 111 ∷ 100 ∷ 101 ∷ 60 ∷ 64 ∷ [])
    ∷ row "a completed statement" (said (completed (at 1 0))) (99 ∷ 111 ∷ 109 ∷ 112 ∷ 108 ∷ 101 ∷ 116 ∷ 101 ∷ 100 ∷ 0 ∷ 64 ∷ [])
    ∷ row "a raw read" (read_refusal (read_answer (accepted 7)) ∷ read_value (read_answer (accepted 7)) ∷ []) (0 ∷ 7 ∷ [])
    ∷ row "a refused raw read" (read_refusal (read_answer (refused 15)) ∷ read_value (read_answer (refused 15)) ∷ []) (15 ∷ 0 ∷ [])
    ∷ row "a refused load" refused_load (4 ∷ 7 ∷ 8 ∷ 9 ∷ 5 ∷ 6 ∷ 0 ∷ 0 ∷ 0 ∷ 0 ∷ 0 ∷ 0 ∷ 0 ∷ 31 ∷ [])
    ∷ []

abbrev pub rows : List Row
rows = records ++ entries ++ copies ++ called ++ leavings ++ runs ++ answers

pub refusals_stand : T (all rows)
unfolding judge builtin_number cell_of call_of settings_fit present copied successive arguments copies_present entry_conditions entered leave_conditions
    each record_conditions entities_fit frame_functions entered_functions all_present locals_of sound run_conditions
refusals_stand = tt
