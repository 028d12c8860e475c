-- THE CONTEXT as the definition's state, and what a method answers as the definition's outcome.
use Rattle.std.specs.Prelude.{ℕ, ◌+◌, ◌-◌, ◌*◌, ◌≤◌, ◌<◌, ◌≡◌, List, [], ◌∷◌, ◌++◌, ℤ, pos, length, get_or, set, Result, Ok, Err}
use Rattle.definition.specs.declared.FileRecord.{FileRecord}
use Rattle.definition.specs.declared.FunctionDef.{FunctionDef}
use Rattle.definition.specs.declared.refusal.Refusal.{Refusal}
use Rattle.definition.specs.Checks.{Conditions, ◌otherwise◌, Checked, guard}
use Rattle.definition.specs.File.{file_of}
use Rattle.definition.specs.Statements.{Entities, place_of}
use Rattle.definition.specs.Machine.{Program, State, Config, zero_frame, return_conditions, returned}
use Rattle.definition.specs.Operations.{natural, is_handed_over, raw_conditions}
use Rattle.definition.specs.Refusals.{checked}
use Rattle.definition.specs.Answers.{Outcome, answer_of, outcome, no_state}
use Rattle.definition.specs.LoadLaws.{InRange}
use Rattle.functions.specs.Laws.{AllFit}
use Rattle.progs.specs.declared.ExecutionContext.{ExecutionContext}
use Rattle.progs.specs.declared.calls.Locals.{Locals}

abbrev pub state_of : ExecutionContext → State
state_of x =
    record {
      file = x.file;
      settings = x.settings;
      pc = x.pc;
      function = x.current_function;
      depth = x.depth;
      saved = x.saved;
      entity_count = x.entity_count;
      frames = x.frames;
    }

abbrev pub config : ExecutionContext → List ℕ → List ℕ → List ℕ → Config
config x cells saved entities = record { state = state_of x; cells = cells; saved = saved; entities = entities }

-- the answer of a method, with the context and the lent cells after it
abbrev pub outcome_of : Result (Unit {0}) Refusal → ExecutionContext → List ℕ → List ℕ → List ℕ → Outcome
outcome_of r x cells saved entities = record { answer = answer_of (checked r); config = config x cells saved entities }

-- the state that a load gives: of zeros where it is refused
abbrev pub loaded_state : Result ExecutionContext Refusal → State
loaded_state (Ok x) = state_of x
loaded_state (Err r) = no_state

abbrev pub loading_of : Result ExecutionContext Refusal → List ℕ → List ℕ → List ℕ → Outcome
loading_of r cells saved entities =
    record { answer = answer_of (checked r); config = record { state = loaded_state r; cells = cells; saved = saved; entities = entities } }

-- what an operation leaves of a configuration, and what it answers
abbrev pub after : Config → (Config → Checked Config) → Outcome
after c operation = outcome c (operation c)

-- a Return or Done of the three cells from a on
abbrev pub return : Program → ℕ → Config → Checked Config
return P a c = guard (return_conditions P a c) (returned P a c)

-- 14, 7 and 27: the conditions of carrying on, after check 13
abbrev pub onward : Program → ℤ → Entities → List ℕ → Conditions
onward P p e cells = P.fetching p ++ ((is_handed_over (P.does p e cells) otherwise 27) ∷ [])

-- the cell at an address, by the conditions of raw access
unfoldable pub raw_place : Program → ℤ → Config → Checked ℕ
raw_place P a c = guard (raw_conditions P a c) (natural a)

-- a context without its cells: no condition of a call, and no state after one, depends on a cell
abbrev pub bare : ExecutionContext → Config
bare x = config x [] [] []

-- the context in function f, which is to go back to the position `back`
abbrev pub entered_context : ExecutionContext → ℕ → ℤ → ℕ → ℤ → ExecutionContext
entered_context x f first locals back =
    record {
      file = x.file;
      settings = x.settings;
      pc = first;
      current_function = f;
      depth = x.depth + 1;
      saved = x.saved + locals;
      entity_count = x.entity_count;
      frames = set x.frames x.depth (record { instr_id = back; func_id = x.current_function });
    }

-- the context after its function, of so many locals, is left
abbrev pub left_context : ExecutionContext → ℕ → ExecutionContext
left_context x locals =
    let frame = get_or x.frames (x.depth - 1) zero_frame in
    record {
      file = x.file;
      settings = x.settings;
      pc = frame.instr_id;
      current_function = frame.func_id;
      depth = x.depth - 1;
      saved = x.saved - locals;
      entity_count = x.entity_count;
      frames = set x.frames (x.depth - 1) zero_frame;
    }

abbrev pub range_of : FunctionDef → Locals
range_of d = record { start = d.start; count = d.locals }

-- ---- what check 13 establishes and every statement keeps: with it every read of a record, and of a cell below the count, is in bounds

pub record Loaded (file : List ℕ) (r : FileRecord) : Type 0 where
  pub same : r ≡ file_of file
  pub lumps : AllFit (length file) r

pub record Within (file : List ℕ) (x : ExecutionContext) (cells saved entities : ℕ) : Type 0 where
  pub loaded : Loaded file x.file
  pub least : 64 ≤ x.file.globals.count
  pub most : x.file.globals.count ≤ 32768
  pub lent : x.file.globals.count ≤ cells
  pub store : 2048 ≤ saved
  pub range : InRange x.settings
  pub depth : x.depth ≤ 31
  pub held : x.saved ≤ 2048
  pub size_least : 105 ≤ x.file.entityfields
  pub size_most : x.file.entityfields < 2147483648
  pub number : x.entity_count ≤ 600
  pub fields : x.entity_count * x.file.entityfields ≤ entities

-- a position that is one of the statements: its number is below every bound of a lump
pub record AtStatement (p : ℤ) : Type 0 where
  pub is : p ≡ pos (place_of 0 p)
  pub small : place_of 0 p < 2147483648

-- the same with the entities' own cells alone: no call looks at an entity cell
abbrev pub Lent : List ℕ → ExecutionContext → List ℕ → List ℕ → Type 0
Lent file x cells saved = Within file x (length cells) (length saved) (x.entity_count * x.file.entityfields)

-- what an entry or a Return keeps of it, whether it is refused or not
pub record Kept (x y : ExecutionContext) : Type 0 where
  pub file : y.file ≡ x.file
  pub settings : y.settings ≡ x.settings
  pub entity_count : y.entity_count ≡ x.entity_count
  pub depth : y.depth ≤ 31
  pub saved : y.saved ≤ 2048
