-- THE MACHINE. Document 01, "Calls", progs/mod.rs and pr_exec.c: the state, entry, leaving, Return, one statement, a run. What a program's bytes say
-- is behind a `Program`.
use Rattle.std.specs.Prelude.{ℕ, zero, suc, ◌+◌, ◌*◌, ◌-◌, List, [], ◌∷◌, ◌++◌, Bool, true, false, not, ◌&&◌, ◌||◌, ℤ, pos, ◌+ℤ◌, length, get_or, set, drop, replicate, leb, ltb, eqb}
use Rattle.std.proofs.Math.Seq.{paste}
use Rattle.definition.specs.declared.FileRecord.{FileRecord}
use Rattle.definition.specs.declared.Settings.{Settings}
use Rattle.definition.specs.declared.FunctionDef.{FunctionDef}
use Rattle.definition.specs.declared.StackFrame.{StackFrame}
use Rattle.definition.specs.declared.Handover.{Handover}
use Rattle.definition.specs.declared.RunAnswer.{RunAnswer}
use Rattle.definition.specs.declared.RunAnswer.TheVariants.{Ended, Spent, Refused, HandedOver}
use Rattle.definition.specs.Checks.{Conditions, ◌otherwise◌, Checked, refused, accepted, guard}
use Rattle.definition.specs.File.{most_entities, greatest_depth, most_arguments, negative, no_function, is_builtin}
use Rattle.definition.specs.Statements.{Entities, Does, next, puts, calls, returns, refuses, hands_over}

-- ---- the program

-- where statements are fetched from
pub record Fetch : Type 0 where
  -- there is room for all statements (37)
  pub room : Bool
  -- 14 and 7, at a position
  pub fetching : ℤ → Conditions
  -- what the statement at a position does, with the entities and the cells as they are
  pub does : ℤ → Entities → List ℕ → Does

pub record Program : Type 0 where
  pub functions : List FunctionDef
  -- the fetch of the program's engine: of the first, from the file's bytes, which always have room
  pub room : Bool
  pub fetching : ℤ → Conditions
  pub does : ℤ → Entities → List ℕ → Does
  -- the file is as a state records, with so many lent cells (the first of 13's conditions)
  pub recorded : FileRecord → ℕ → Bool
  -- R-12: the fetch from "statements unpacked once into a lent buffer"
  pub unpacked : List ℕ → Fetch

-- R-12: "A second engine runs from statements unpacked": the same program, with its fetch from this buffer
abbrev pub with_unpacked : Program → List ℕ → Program
with_unpacked P buffer =
    let from = P.unpacked buffer in
    record {
      functions = P.functions;
      room = from.room;
      fetching = from.fetching;
      does = from.does;
      recorded = P.recorded;
      unpacked = P.unpacked;
    }

abbrev pub function_of : Program → ℕ → FunctionDef
function_of P f = get_or P.functions f no_function

-- ---- the state, and the three lent stores that an operation may change

pub record State : Type 0 where
  pub file : FileRecord
  -- R-11: "settings given at load and held in the state"
  pub settings : Settings
  pub pc : ℤ
  pub function : ℕ
  pub depth : ℕ
  pub saved : ℕ
  -- R-3: "their number given at load and kept in the state"
  pub entity_count : ℕ
  pub frames : List StackFrame

pub record Config : Type 0 where
  pub state : State
  pub cells : List ℕ
  pub saved : List ℕ
  pub entities : List ℕ

abbrev pub entities_of : Config → Entities
entities_of c = record { count = c.state.entity_count; cells = c.entities }

-- the file's count of cells, by which 15 refuses
abbrev pub count_of : Config → ℕ
count_of c = c.state.file.globals.count

abbrev pub zero_frame : StackFrame
zero_frame = record { instr_id = pos 0; func_id = 0 }

-- "Position, function and depths start at 0. Frames start as zeros"
abbrev pub start_state : Settings → FileRecord → ℕ → State
start_state s r n =
    record { file = r; settings = s; pc = pos 0; function = 0; depth = 0; saved = 0; entity_count = n; frames = replicate greatest_depth zero_frame }

-- R-3: "More than 600 entities, or lent entity cells too few for them": n entities of so many cells, beside so many lent ones
unfoldable pub entities_fit : ℕ → ℕ → ℕ → Bool
entities_fit n size lent = leb n most_entities && leb (n * size) lent

-- the n cells from a on are below the count: of no cells none is missing, and the bits of a negative cell number are above every count
unfoldable pub present : ℕ → ℕ → ℕ → Bool
present a n count = eqb n 0 || leb (a + n) count

-- ---- copying, "one at a time"

pub record Copy : Type 0 where
  pub from : ℕ
  pub to : ℕ

unfoldable pub copied : List Copy → List ℕ → List ℕ
copied [] cells = cells
copied (m ∷ ms) cells = copied ms (set cells m.to (get_or cells m.from 0))

-- n successive cells
unfoldable pub successive : ℕ → ℕ → ℕ → List Copy
successive zero from to = []
successive (suc n) from to = record { from = from; to = to } ∷ successive n (from + 1) (to + 1)

-- "argument i, component j comes from cell 4+3i+j, to successive cells from the first local cell": n arguments of these sizes, from number i on
unfoldable pub arguments : ℕ → ℕ → ℕ → List ℕ → List Copy
arguments zero i to sizes = []
arguments (suc n) i to [] = []
arguments (suc n) i to (size ∷ sizes) = successive size (4 + 3 * i) to ++ arguments n (i + 1) (to + size) sizes

abbrev pub arguments_of : FunctionDef → List Copy
arguments_of d = arguments d.argc 0 d.start d.argsz

unfoldable pub copies_present : ℕ → List Copy → Bool
copies_present count [] = true
copies_present count (m ∷ ms) = ltb m.from count && ltb m.to count && copies_present count ms

-- ---- entry

-- the row "entry": "20; 22: depth is 31; 23: locals negative or saved over 2,048; 15: local cells; 24: argument count outside 0 to 8; 15: argument
-- cells; 21: builtin"; R-11: "Refusals 3, 22, 23, 13 and 28 use" the settings
unfoldable pub entry_conditions : Program → ℕ → Config → Conditions
entry_conditions P f c =
    let d = function_of P f in
    (ltb f (length P.functions) otherwise 20)
    ∷ (ltb c.state.depth c.state.settings.depth otherwise 22)
    ∷ (not (negative d.locals) && leb (c.state.saved + d.locals) c.state.settings.saved otherwise 23)
    ∷ (present d.start d.locals (count_of c) otherwise 15)
    ∷ (leb d.argc most_arguments otherwise 24)
    ∷ (copies_present (count_of c) (arguments_of d) otherwise 15)
    ∷ (not (is_builtin d) otherwise 21)
    ∷ []

-- "Entry saves the local range (first local cell, local count) onto the saved store, then copies arguments"; "then the function is current, at its first
-- statement". `back` is the position that it records: "A Call records the position after itself, a host entry the present one"
unfoldable pub entered : Program → ℕ → ℤ → Config → Config
entered P f back c =
    let d = function_of P f in
    record {
      state =
          record {
            file = c.state.file;
            settings = c.state.settings;
            pc = pos d.first;
            function = f;
            depth = c.state.depth + 1;
            saved = c.state.saved + d.locals;
            entity_count = c.state.entity_count;
            frames = set c.state.frames c.state.depth (record { instr_id = back; func_id = c.state.function });
          };
      cells = copied (arguments_of d) c.cells;
      saved = paste c.saved c.state.saved (drop d.start c.cells) d.locals;
      entities = c.entities;
    }

abbrev pub enter : Program → ℕ → ℤ → Config → Checked Config
enter P f back c = guard (entry_conditions P f c) (entered P f back c)

-- ---- leaving and Return

-- the row "Return", its operand apart: "25: depth 0; 26: saved cells fewer than the locals; 15: local cells"
unfoldable pub leave_conditions : Program → Config → Conditions
leave_conditions P c =
    let d = function_of P c.state.function in
    (ltb 0 c.state.depth otherwise 25)
    ∷ (leb d.locals c.state.saved otherwise 26)
    ∷ (present d.start d.locals (count_of c) otherwise 15)
    ∷ []

-- "then restore the locals and the recorded position"; "a frame that is left becomes zeros again"; "The saved store above its depth keeps what was last
-- written"
unfoldable pub left : Program → Config → Config
left P c =
    let d = function_of P c.state.function in
    let frame = get_or c.state.frames (c.state.depth - 1) zero_frame in
    let below = c.state.saved - d.locals in
    record {
      state =
          record {
            file = c.state.file;
            settings = c.state.settings;
            pc = frame.instr_id;
            function = frame.func_id;
            depth = c.state.depth - 1;
            saved = below;
            entity_count = c.state.entity_count;
            frames = set c.state.frames (c.state.depth - 1) zero_frame;
          };
      cells = paste c.cells d.start (drop below c.saved) d.locals;
      saved = c.saved;
      entities = c.entities;
    }

abbrev pub leave : Program → Config → Checked Config
leave P c = guard (leave_conditions P c) (left P c)

abbrev pub with_cells : Config → List ℕ → Config
with_cells c cells = record { state = c.state; cells = cells; saved = c.saved; entities = c.entities }

-- R-3: "between calls the host may change any" of the lent entity cells
abbrev pub with_entities : Config → List ℕ → Config
with_entities c entities = record { state = c.state; cells = c.cells; saved = c.saved; entities = entities }

-- "15: operand cells", three of them
abbrev pub return_conditions : Program → ℕ → Config → Conditions
return_conditions P a c = (present a 3 (count_of c) otherwise 15) ∷ leave_conditions P c

-- "Return and Done copy three cells from the first operand to cells 1, 2, 3, one at a time, then restore"
abbrev pub returned : Program → ℕ → Config → Config
returned P a c = left P (with_cells c (copied (successive 3 a 1) c.cells))

-- ---- one statement

pub data Stepped : Type 0 where
  completed : Config → Stepped
  refused_step : ℕ → Stepped
  handed_step : Handover → Stepped

abbrev pub advanced : Config → ℤ → List ℕ → List ℕ → Config
advanced c p cells entities =
    record {
      state =
          record {
            file = c.state.file;
            settings = c.state.settings;
            pc = p;
            function = c.state.function;
            depth = c.state.depth;
            saved = c.state.saved;
            entity_count = c.state.entity_count;
            frames = c.state.frames;
          };
      cells = cells;
      saved = c.saved;
      entities = entities;
    }

abbrev pub as_step : Checked Config → Stepped
as_step (refused n) = refused_step n
as_step (accepted c) = completed c

unfoldable pub step_as : Program → Does → Config → Stepped
step_as P (next p cells) c = completed (advanced c p cells c.entities)
step_as P (puts p entities) c = completed (advanced c p c.cells entities)
step_as P (calls f) c = as_step (enter P f (c.state.pc +ℤ pos 1) c)
step_as P (returns a) c = as_step (guard (return_conditions P a c) (returned P a c))
step_as P (refuses n) c = refused_step n
step_as P (hands_over h) c = handed_step h

-- the statement at the position
unfoldable pub step : Program → Config → Stepped
step P c = step_as P (P.does c.state.pc (entities_of c) c.cells) c

-- ---- a run, after its checks

pub record Ran : Type 0 where
  pub answer : RunAnswer
  -- "The count is of completed statements"
  pub count : ℕ
  pub config : Config

abbrev pub one_more : Ran → Ran
one_more r = record { answer = r.answer; count = r.count + 1; config = r.config }

-- "A run goes on until the call depth equals a target"
abbrev pub go_on : Bool → Config → (Config → Ran) → Ran
go_on true c rest = record { answer = Ended; count = 0; config = c }
go_on false c rest = rest c

abbrev pub run_as : Stepped → ℕ → Config → (Config → Ran) → Ran
run_as (completed c') target c rest = one_more (go_on (eqb c'.state.depth target) c' rest)
run_as (refused_step n) target c rest = record { answer = Refused n; count = 0; config = c }
run_as (handed_step h) target c rest = record { answer = HandedOver h; count = 0; config = c }

-- at most so many statements: "Spent is given when the limit's statements are completed and the target isn't reached"
unfoldable pub run_for : Program → ℕ → ℕ → Config → Ran
run_for P zero target c = record { answer = Spent; count = 0; config = c }
run_for P (suc n) target c = run_as (step P c) target c (λ c'. run_for P n target c')
