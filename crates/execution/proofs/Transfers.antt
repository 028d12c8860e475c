-- Laws of what a statement does by its parts: branches, Calls, and statements that write; and of execution by shape, whatever is looked up. Assumes nothing.
use Rattle.std.specs.Prelude.{ℕ, zero, suc, ◌/◌, ◌<◌, List, length, get_or, Bool, true, false, cond, eqb, ltb, Some, None, Result, Ok, Err, ℤ, pos, ◌+ℤ◌}
use Rattle.std.specs.Bool.{beq}
use Rattle.std.proofs.Common.{◌≡◌, refl, sym, ap, ◌∙◌, ne_eqb, lt-ltb, le-ltb}
use Rattle.definition.specs.declared.refusal.Refusal.{Refusal}
use Rattle.definition.specs.declared.FunctionDef.{FunctionDef}
use Rattle.definition.specs.declared.Statement.{Statement}
use Rattle.definition.specs.declared.Handover.TheVariants.{Builtin}
use Rattle.definition.specs.Checks.{judge}
use Rattle.definition.specs.Refusals.{number}
use Rattle.definition.specs.File.{no_function, is_builtin, builtin_of, builtin_known}
use Rattle.definition.specs.Floats.{is_zero, rounding_of}
use Rattle.definition.specs.Cells.{cell_of, Typing, cell_access, access}
use Rattle.definition.specs.Statements.{Entities, Effect, Does, next, puts, calls, refuses, or_refused, provided, effect_does, put_does, floats_effect, Shape, shape_of, branches_do, rounding_effect, builtin_does, call_of, call_does, Tables, execute_as, execute_in}
use Rattle.definition.proofs.RecordLaws.{length_records}
use Rattle.definition.proofs.RefusalLaws.{numbered}
use Rattle.functions.specs.Parts.{functions_in}
use Rattle.functions.specs.Answers.{function_id}
use Rattle.functions.specs.Laws.{function_found, function_missing}
use Rattle.floats.specs.Opcodes.{float_op}
use Rattle.floats.specs.Rounding.{rounding_op, is_rounding, is_rounding_law, no_rounding}
use Rattle.typed.proofs.Laws.{cell_reach}
use Rattle.globals.specs.Effects.{After, after, effect_on}
use Rattle.execution.specs.declared.Callee.{Callee}
use Rattle.execution.specs.declared.Callee.TheVariants.{Function, Rounding, Host}
use Rattle.execution.specs.declared.Executed.{Executed}
use Rattle.execution.specs.declared.Executed.TheVariants.{Next, Calls, Returns, HandedOver}
use Rattle.execution.specs.declared.shapes.CellOp.{CellOp}
use Rattle.execution.specs.declared.shapes.CellOp.TheVariants.{Values, Vectors, VectorsToFloat, Nots, NotV, Stores, StoreV}
use Rattle.execution.specs.declared.shapes.StringOp.{StringOp}
use Rattle.execution.specs.declared.shapes.StringOp.TheVariants.{Compare, Not}
use Rattle.execution.specs.declared.shapes.FieldOp.{FieldOp}
use Rattle.execution.specs.declared.shapes.FieldOp.TheVariants.{Loads, Address, StoresP}
use Rattle.execution.specs.declared.shapes.Shape as code
use Rattle.execution.specs.declared.shapes.Shape.TheVariants.{Cells, Strings, Fields, Call}
use Rattle.execution.specs.Shapes.{is_floats, cell_shape, string_shape, field_shape, shape_as, effect_as, string_effect, field_does}
use Rattle.execution.specs.Execution.{statement, completed_as, does_of, called_does, callee_does, Execution, executed, execution}
use Rattle.execution.proofs.Opcodes.{floats_are}

-- ---- a refusal

refuses_it : (e : Refusal) (n : ℕ) (d : Does) → number e ≡ n → refuses (number e) ≡ or_refused n d
refuses_it e zero d h = absurd (numbered e h)
refuses_it e (suc n) d h = ap refuses h

-- ---- If and IfNot

module _ (when : Bool) (g : Typing) (p : ℤ) (a : ℕ) (by : ℤ) (cells : List ℕ) where
  pub branch_refused : (r : Result Executed Refusal) (e : Refusal) → r ≡ Err e → number e ≡ judge (cell_access g 2 a) → does_of r cells ≡ branches_do when g p a by cells
  unfolding branches_do access
  branch_refused r e h k = rw h (refuses_it e _ _ k)

  pub branch_goes : (q : ℤ) → 0 ≡ judge (cell_access g 2 a) → q ≡ p +ℤ cond (beq (is_zero (get_or cells a 0)) when) by (pos 1) → next q cells ≡ branches_do when g p a by cells
  unfolding branches_do access
  branch_goes q h e = rw (← h, e)

-- ---- what a Call calls

pub found_below : (value count f : ℕ) → Some f ≡ function_id value count → f < count
found_below value count f e = (function_found value count f e).1

module _ (functions : List FunctionDef) (g : Typing) (p : ℤ) (value : ℕ) (cells : List ℕ) where
  abbrev Goal : Does → Type 0
  Goal d = d ≡ call_of functions g p value cells

  pub call_none : value ≡ 0 → Goal (refuses 19)
  unfolding call_of judge
  call_none h = rw h

  module _ (some : value ≡ 0 → ⊥) where
    pub call_missing : (n : ℕ) → length functions ≡ n → None ≡ function_id value n → Goal (refuses 20)
    unfolding call_of judge
    call_missing n size e = rw (ne_eqb value 0 some, le-ltb value (length functions) (rw size (function_missing value n e)))

    module _ (n : ℕ) (size : length functions ≡ n) (f : ℕ) (found : Some f ≡ function_id value n) (d : FunctionDef) (read : d ≡ get_or functions f no_function) where
      same : f ≡ value
      same = (function_found value n f found).0

      there : ltb value (length functions) ≡ true
      there = lt-ltb value _ (rw (size, ← same) (function_found value n f found).1)

      read_value : d ≡ get_or functions value no_function
      read_value = rw (← same) read

      pub call_unknown : builtin_known d ≡ false → Goal (refuses 5)
      unfolding call_of judge
      call_unknown h = rw (ne_eqb value 0 some, there, ← read_value, h)

      pub call_builtin : is_builtin d ≡ true → builtin_known d ≡ true → (b : ℕ) → b ≡ builtin_of d → Goal (builtin_does (rounding_of b) b g p cells)
      unfolding call_of judge
      call_builtin t h b e = rw (ne_eqb value 0 some, there, ← read_value, h, t, e)

      pub call_enters : is_builtin d ≡ false → Goal (calls f)
      unfolding call_of judge
      call_enters t = rw (ne_eqb value 0 some, there, ← read_value, t, same)

-- the same of the functions that the bytes of a lump hold, for the check
module _ (bytes : List ℕ) (g : Typing) (p : ℤ) (value : ℕ) (cells : List ℕ) where
  abbrev Found : Does → Type 0
  Found d = d ≡ call_of (functions_in bytes) g p value cells

  pub none_called : value ≡ 0 → Found (refuses 19)
  none_called h = call_none _ _ _ _ _ h

  size : length (functions_in bytes) ≡ length bytes / 36
  size = length_records _ _ _ _

  module _ (some : value ≡ 0 → ⊥) where
    pub missing_called : None ≡ function_id value (length bytes / 36) → Found (refuses 20)
    missing_called e = call_missing _ _ _ _ _ some _ size e

    module _ (f : ℕ) (found : Some f ≡ function_id value (length bytes / 36)) (d : FunctionDef) (read : d ≡ get_or (functions_in bytes) f no_function) where
      pub unknown_called : builtin_known d ≡ false → Found (refuses 5)
      unknown_called h = call_unknown _ _ _ _ _ some _ size f found d read h

      pub builtin_called : is_builtin d ≡ true → builtin_known d ≡ true → (b : ℕ) → b ≡ builtin_of d → (c : Callee) → called_does c g p cells ≡ builtin_does (rounding_of b) b g p cells → Found (called_does c g p cells)
      builtin_called t h b e c q = q ∙ call_builtin _ _ _ _ _ some _ size f found d read t h b e

      pub entered : is_builtin d ≡ false → Found (calls f)
      entered t = call_enters _ _ _ _ _ some _ size f found d read t

module _ (functions : List FunctionDef) (g : Typing) (p : ℤ) (a : ℕ) (cells : List ℕ) where
  pub call_refused : (r : Result Callee Refusal) (e : Refusal) → r ≡ Err e → number e ≡ judge (cell_access g 6 a) → callee_does r g p cells ≡ call_does functions g p a cells
  unfolding call_does access
  call_refused r e h k = rw h (refuses_it e _ _ k)

  pub call_goes : (d : Does) → 0 ≡ judge (cell_access g 6 a) → d ≡ call_of functions g p (get_or cells a 0) cells → d ≡ call_does functions g p a cells
  unfolding call_does access
  call_goes d h e = rw (← h) e

-- a builtin that the machine does, and one that is the host's
module _ (n : ℕ) (g : Typing) (p : ℤ) (cells : List ℕ) where
  pub builtin_rounds : is_rounding n ≡ true → called_does (Rounding n) g p cells ≡ builtin_does (rounding_of n) n g p cells
  builtin_rounds h = rw (is_rounding_law n h)

  pub builtin_hosts : is_rounding n ≡ false → called_does (Host n) g p cells ≡ builtin_does (rounding_of n) n g p cells
  builtin_hosts h = rw (no_rounding n h)

-- ---- a statement that writes

-- what it answers that checks the conditions of an effect and then writes: `wrote` is what it does with the new cells, `whole` its answer with what was
-- written in its place
module _ (p : ℤ) (x : Effect) (a : Result Unit Refusal) (cells entities old new : List ℕ) (wrote : List ℕ → Does) (whole : Result Executed Refusal → List ℕ → Execution) where
  effect_is : after a new ≡ effect_on x old
      → ((z : List ℕ) → whole (Ok (Next (p +ℤ pos 1))) z ≡ execution (wrote z) cells entities)
      → ((e : Refusal) → whole (Err e) old ≡ execution (refuses (number e)) cells entities)
      → whole (completed_as p a) new ≡ execution (provided x.conditions (wrote x.cells)) cells entities
  unfolding effect_on
  effect_is h completes refused = by a (ap (λ (y : After). y.refusal) h) (ap (λ (y : After). y.cells) h)
    where
      by : (r : Result Unit Refusal) → (after r new).refusal ≡ judge x.conditions → new ≡ cond (eqb (judge x.conditions) 0) x.cells old
          → whole (completed_as p r) new ≡ execution (or_refused (judge x.conditions) (wrote x.cells)) cells entities
      by (Ok u) j n = let written : new ≡ x.cells = rw (← j) at n in rw (← j, written) (completes x.cells)
      by (Err e) j n =
          let kept : new ≡ old = n ∙ rw (← j, ne_eqb (number e) 0 (numbered e)) in
          rw (← refuses_it e _ (wrote x.cells) j, kept) (refused e)

module _ (p : ℤ) (x : Effect) (a : Result Unit Refusal) (cells entities written : List ℕ) where
  pub completed_is : after a written ≡ effect_on x cells → executed (completed_as p a) written entities ≡ execution (effect_does p x) cells entities
  unfolding executed execution
  completed_is h = effect_is p x a cells entities cells written (next (p +ℤ pos 1)) (λ r z. executed r z entities) h (λ z. refl) (λ e. refl)

  pub put_is : after a written ≡ effect_on x entities → executed (completed_as p a) cells written ≡ execution (put_does p x) cells entities
  unfolding executed execution
  put_is h = effect_is p x a cells entities entities written (puts (p +ℤ pos 1)) (λ r z. executed r cells z) h (λ z. refl) (λ e. refl)

-- a statement that writes nothing leaves cells and entity cells
pub kept : (r : Result Executed Refusal) (cells entities : List ℕ) → executed r cells entities ≡ execution (does_of r cells) cells entities
unfolding executed execution
kept (Ok (Next q)) cells entities = refl
kept (Ok (Calls f)) cells entities = refl
kept (Ok (Returns c)) cells entities = refl
kept (Ok (HandedOver h)) cells entities = refl
kept (Err e) cells entities = refl

-- ---- a Call, by what it calls

module _ (c : Callee) (g : Typing) (p : ℤ) (cells entities : List ℕ) where
  abbrev Calling : Result Executed Refusal → List ℕ → Type 0
  Calling r cells' = executed r cells' entities ≡ execution (called_does c g p cells) cells entities

  pub function_called : (f : ℕ) → c ≡ Function f → Calling (Ok (Calls f)) cells
  function_called f h = rw h (kept (Ok (Calls f)) cells entities)

  pub host_called : (n : ℕ) → c ≡ Host n → Calling (Ok (HandedOver (Builtin n))) cells
  host_called n h = rw h (kept (Ok (HandedOver (Builtin n))) cells entities)

  module _ (n : ℕ) (rounds : c ≡ Rounding n) (cells' : List ℕ) where
    rounded : (a : Result Unit Refusal) → after a cells' ≡ effect_on (rounding_effect (rounding_op n) g cells) cells → Calling (completed_as p a) cells'
    rounded a h = rw rounds (completed_is p _ a cells entities cells' h)

    pub rounding_stopped : (r : Result Executed Refusal) (e : Refusal) → r ≡ Err e → after (Err e) cells' ≡ effect_on (rounding_effect (rounding_op n) g cells) cells → Calling r cells'
    rounding_stopped r e k h = rw k (rounded (Err e) h)

    pub rounding_done : (d : Executed) → d ≡ Next (p +ℤ pos 1) → after (Ok tt) cells' ≡ effect_on (rounding_effect (rounding_op n) g cells) cells → Calling (Ok d) cells'
    rounding_done d k h = rw k (rounded (Ok tt) h)

-- ---- execution by shape, whatever is looked up

module _ (k : Tables) (p : ℤ) (op x y z : ℕ) (e : Entities) (cells : List ℕ) where
  abbrev st : Statement
  st = statement op x y z

  -- what the opcode's statement does, were it of that shape
  abbrev does : Shape → Does
  does s = execute_as s k p st (cell_of x) (cell_of y) (cell_of z) e cells

  abbrev Executes : Result Executed Refusal → List ℕ → List ℕ → Type 0
  Executes r cells' entities' = executed r cells' entities' ≡ execution (execute_in k p st e cells) cells e.cells

  module _ (shape s : code.Shape) (told : shape ≡ s) (is : shape_as shape op ≡ shape_of op) where
    pub does_is : does (shape_as s op) ≡ execute_in k p st e cells
    does_is = rw (← told) (ap does is)

    pub transferred : (r : Result Executed Refusal) → does_of r cells ≡ does (shape_as s op) → Executes r cells e.cells
    transferred r q = kept r cells e.cells ∙ ap (λ (d : Does). execution d cells e.cells) (q ∙ does_is)

  -- a Call, of which c is what it calls
  module _ (shape : code.Shape) (told : shape ≡ Call) (is : shape_as shape op ≡ shape_of op) (a : ℕ) (here : a ≡ cell_of x) (c : Result Callee Refusal) (found : callee_does c k.globals p cells ≡ call_does k.functions k.globals p a cells) where
    pub call_is : callee_does c k.globals p cells ≡ execute_in k p st e cells
    call_is = found ∙ (rw here) ∙ does_is shape Call told is

    pub called : (r : Result Executed Refusal) (cells' : List ℕ) → executed r cells' e.cells ≡ execution (callee_does c k.globals p cells) cells e.cells
        → Executes r cells' e.cells
    called r cells' q = q ∙ ap (λ (d : Does). execution d cells e.cells) call_is

  -- the cells' shapes are effects
  effect_does_law : (what : CellOp) → does (cell_shape what op) ≡ effect_does p (effect_as what op k.globals (cell_of x) (cell_of y) (cell_of z) cells)
  unfolding effect_as
  effect_does_law (Values t) = refl
  effect_does_law (Vectors ta tb) = refl
  effect_does_law VectorsToFloat = refl
  effect_does_law (Nots t) = refl
  effect_does_law NotV = refl
  effect_does_law (Stores t) = refl
  effect_does_law StoreV = refl

  string_does : (what : StringOp) → does (string_shape what) ≡ effect_does p (string_effect what k.globals k.strings (cell_of x) (cell_of y) (cell_of z) cells)
  unfolding string_effect
  string_does (Compare when) = refl
  string_does Not = refl

  -- the effect of a statement is its shape's
  wrote : (shape s : code.Shape) → shape ≡ s → shape_as shape op ≡ shape_of op → (x : Effect) → does (shape_as s op) ≡ effect_does p x → (a : Result Unit Refusal) (cells' : List ℕ) (r : Result Executed Refusal)
      → after a cells' ≡ effect_on x cells → r ≡ completed_as p a → Executes r cells' e.cells
  wrote shape s told is x effect a cells' r q h =
      rw h (completed_is p x a cells e.cells cells' q ∙ ap (λ (d : Does). execution d cells e.cells) (sym effect ∙ does_is shape s told is))

  module _ (shape : code.Shape) (is : shape_as shape op ≡ shape_of op) (i j l : ℕ) (ei : i ≡ cell_of x) (ej : j ≡ cell_of y) (el : l ≡ cell_of z) (a : Result Unit Refusal) (cells' : List ℕ) (r : Result Executed Refusal) (h : r ≡ completed_as p a) where
    pub written : (what : CellOp) → shape ≡ Cells what → after a cells' ≡ effect_on (effect_as what op k.globals i j l cells) cells → Executes r cells' e.cells
    written what told q = wrote shape (Cells what) told is _ (effect_does_law what) a cells' r (rw (ei, ej, el) at q) h

    pub string_written : (what : StringOp) → shape ≡ Strings what → after a cells' ≡ effect_on (string_effect what k.globals k.strings i j l cells) cells → Executes r cells' e.cells
    string_written what told q = wrote shape (Strings what) told is _ (string_does what) a cells' r (rw (ei, ej, el) at q) h

  -- the statements of entity fields
  field_does_law : (what : FieldOp) → does (field_shape what) ≡ field_does what k.globals k.fields p e (cell_of x) (cell_of y) (cell_of z) cells
  field_does_law (Loads t) = refl
  field_does_law Address = refl
  field_does_law (StoresP t) = refl

  module _ (shape : code.Shape) (what : FieldOp) (told : shape ≡ Fields what) (is : shape_as shape op ≡ shape_of op) where
    pub fielded : (i j l : ℕ) → i ≡ cell_of x → j ≡ cell_of y → l ≡ cell_of z → (r : Result Executed Refusal) (cells' entities' : List ℕ)
        → executed r cells' entities' ≡ execution (field_does what k.globals k.fields p e i j l cells) cells e.cells
        → Executes r cells' entities'
    fielded i j l ei ej el r cells' entities' q =
        let q' = rw (ei, ej, el) at q in
        q' ∙ ap (λ (d : Does). execution d cells e.cells) (sym (field_does_law what) ∙ does_is shape (Fields what) told is)

  -- ---- two floats to a float

  module _ (is : is_floats (shape_of op) ≡ true) where
    floats_does : effect_does p (floats_effect (float_op op) k.globals (cell_of x) (cell_of y) (cell_of z) cells) ≡ execute_in k p st e cells
    floats_does = ap does (floats_are op is)

    pub floats_written : (a : Result Unit Refusal) (cells' : List ℕ) (r : Result Executed Refusal)
        → after a cells' ≡ effect_on (floats_effect (float_op op) k.globals (cell_of x) (cell_of y) (cell_of z) cells) cells
        → r ≡ completed_as p a
        → Executes r cells' e.cells
    floats_written a cells' r q h = rw h (completed_is p _ a cells e.cells cells' q ∙ ap (λ (d : Does). execution d cells e.cells) floats_does)

-- ---- what the check takes, by function

pub ruleset writes_field = (completed_is, put_is)

pub ruleset branches_as = (branch_refused, branch_goes, cell_reach)

pub ruleset finds_callee = (none_called, missing_called, unknown_called, builtin_called, entered, found_below)

pub ruleset does_builtin = (builtin_rounds, builtin_hosts)

pub ruleset reads_callee = (call_refused, call_goes, cell_reach)

pub ruleset calls_as = (function_called, host_called, rounding_stopped, rounding_done)
