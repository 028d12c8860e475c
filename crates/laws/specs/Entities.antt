-- ENTITY CELLS, document 02's R-3: "runs that write entities, which keep what was last written; the other lent entity cells are untouched, by a load too,
-- though between calls the host may change any". Which of the lent entity cells each call may change, what a statement writes through a pointer, and what
-- still goes to the host.
use Prim.Native.Nat.{ℕ, zero, suc, ◌+◌, ◌*◌, ◌/◌, ◌%◌, ◌≤◌, ◌<◌}
use Rattle.std.specs.Prelude.{◌≡◌, ◌≢◌, ◌⊎◌, Bool, true, false, not, ◌&&◌, cond, ℤ, ◌+ℤ◌, length, set, take, drop, leb, ltb}
use Rattle.std.proofs.Math.Path.{refl, subst}
use Rattle.std.proofs.Common.{sym, ◌∙◌, ap, inl, inr, arith, add-zero, zero-add, length-set, get_or-set_same, get_or-set_other, drop-set-lt}
use mathlib.Core.List.{List, [], ◌∷◌, ◌++◌}
use Rattle.std.proofs.Math.Option.{Option, none, some}
use Rattle.std.proofs.Math.IntN.{pos}
use Rattle.std.proofs.Math.ListN.{get_or}
use Rattle.std.proofs.lemmas.List.{take-set-le}
use Rattle.std.proofs.Math.Dec.{eqb}
use borrow.Author.Tests.{ltb-true, leb-true, eqb-true}
use Rattle.definition.specs.declared.Settings.{Settings}
use Rattle.definition.specs.declared.Statement.{Statement}
use Rattle.definition.specs.declared.FunctionDef.{FunctionDef}
use Rattle.definition.specs.declared.Handover.{Handover}
use Rattle.definition.specs.declared.Handover.TheVariants.{Builtin, Opcode}
use Rattle.definition.specs.Checks.{Conditions, ◌otherwise◌, Checked, refused, accepted, decided, guard, judge}
use Rattle.definition.specs.File.{opcode_count, contents_of, negative, between, no_function, is_builtin, builtin_of, builtin_known, builtin_number}
use Rattle.definition.specs.Floats.{fabs_f, floor_f, ceil_f, rint_f, rounding_of}
use Rattle.definition.specs.Cells.{vector, field, pointer, cell_of, must_be_natural, access, read_access, field_access}
use Rattle.definition.specs.Statements.{Entities, Does, next, puts, calls, returns, refuses, hands_over, or_refused, provided, unused, value_moved, points_at_field, stores_p_effect, Effect, effect_does, branches_do, builtin_does, call_of, call_does, statement_at, fetch_conditions, Tables, tables_of, execute_as, execute, does_at}
use Rattle.definition.specs.Statements.{Shape, floats, values, vectors, vectors_to_float, strings, negates, negates_v, negates_s, stores, stores_v, loads, addresses, stores_p, branches, jumps, call, return, host, opcodes, shape_of}
use Rattle.definition.specs.Machine.{Program, Config, entities_of, with_entities, advanced, entry_conditions, entered, enter, left, return_conditions, returned, Stepped, completed, refused_step, handed_step, as_step, step_as, step, Ran, go_on, run_as, run_for}
use Rattle.definition.specs.Load.{loaded, load, program_with, program_of}
use Rattle.definition.specs.Operations.{sound, natural, host_enter, step_if, statement, run_conditions, run_after, run, is_handed_over, carry_on_conditions, carry_on, left_times, abandon, raw_write, write_all}
use Rattle.definition.specs.Answers.{kept, statement_outcome, load_outcome}
use Rattle.definition.specs.Calls.{Call, enters, steps, runs, runs_unpacked, carries, abandons, reads, writes, writes_all, lends, after, small_steps}
use Rattle.definition.specs.Unpacked.{Ready, AllReady}
use Rattle.definition.proofs.UnpackedLaws.{same_run}
use Rattle.definition.specs.Log.{Log, Kind, entry, leaving, other, statement_kind}
use Rattle.definition.specs.Trace.{StepProperty, StateProperty, log_after_steps, Always}
use Rattle.definition.specs.Returns.{DepthsMatch, StepCorrect, Demand3}
use Rattle.definition.proofs.ReturnsProof.{demand3}
use Rattle.definition.specs.CheckLaws.{All, WhenAccepted}
use Rattle.definition.proofs.CheckLaws.{judge_passed, judge_all, all_front, all_back, and_left, and_right, guarded, accepted_all}
use Rattle.definition.specs.StatementLaws.{every, last_of, Keeps, HasKind, before_in}
use Rattle.definition.proofs.StatementLaws.{every_at, fields_below, pointer_cell, keeps_all, statement_has_kind}
use Rattle.definition.specs.Invariant.{room_in, Inductive}
use Rattle.definition.proofs.Invariant.{always}

-- ---- what a call leaves of the entity cells

-- the number of entities, and every lent entity cell, are as they were
pub record Same (c c' : Config) : Type 0 where
  pub number : c'.state.entity_count ≡ c.state.entity_count
  pub cells : c'.entities ≡ c.entities

-- the number of entities and of lent entity cells are as they were, and so is every lent cell past those of the entities
pub record Kept (file : List ℕ) (c c' : Config) : Type 0 where
  pub number : c'.state.entity_count ≡ c.state.entity_count
  pub cells : Keeps (room_in file c) c.entities c'.entities

same : (c : Config) → Same c c
same c = record { number = refl; cells = refl }

kept_one : (file : List ℕ) (c : Config) → Kept file c c
kept_one file c = record { number = refl; cells = keeps_all (room_in file c) c.entities }

kept_more : (file : List ℕ) (a b c : Config) → Kept file a b → Kept file b c → Kept file a c
kept_more file a b c p q =
    let room : room_in file b ≡ room_in file a = ap (λ (n : ℕ). n * (contents_of file).entityfields) p.number in
    let later : Keeps (room_in file a) b.entities c.entities = subst (λ (n : ℕ). Keeps n b.entities c.entities) room q.cells in
    record {
      number = q.number ∙ p.number;
      cells = record { same_length = later.same_length ∙ p.cells.same_length; same_above = later.same_above ∙ p.cells.same_above };
    }

-- a leaving, and so a Return and an abandonment, restores no entity cell
pub left_same : (P : Program) (c : Config) → Same c (left P c)
unfolding left
left_same P c = record { number = refl; cells = refl }

pub returned_same : (P : Program) (a : ℕ) (c : Config) → Same c (returned P a c)
unfolding left
returned_same P a c = record { number = refl; cells = refl }

left_times_same : (P : Program) (n : ℕ) (c : Config) → Same c (left_times P n c)
unfolding left_times left
left_times_same P zero c = same c
left_times_same P (suc n) c =
    let rest = left_times_same P n (left P c) in
    record { number = rest.number; cells = rest.cells }

pub entered_same : (P : Program) (f : ℕ) (back : ℤ) (c : Config) → Same c (entered P f back c)
unfolding entered
entered_same P f back c = record { number = refl; cells = refl }

-- an operation that is refused, or that gives a configuration with the same entities
kept_same : (c : Config) (x : Checked Config) → WhenAccepted (Same c) x → Same c (kept c x)
kept_same c (refused n) h = same c
kept_same c (accepted c') h = h

-- a load, accepted or refused, leaves the lent entity cells as they were
pub load_untouched : (s : Settings) (file : List ℕ) (n : ℤ) (cells saved entities : List ℕ)
    → (load_outcome cells saved entities (load s file n cells saved entities)).config.entities ≡ entities
unfolding load loaded
load_untouched s file n cells saved entities = go (load s file n cells saved entities) (guarded (λ (c : Config). c.entities ≡ entities) _ _ λ h. refl)
  where
    go : (x : Checked Config) → WhenAccepted (λ (c : Config). c.entities ≡ entities) x → (load_outcome cells saved entities x).config.entities ≡ entities
    go (refused n) h = refl
    go (accepted c) h = h

-- ---- statements and runs

abbrev pub WhenCompleted : (Config → Type 0) → Stepped → Type 0
WhenCompleted Q (completed c) = Q c
WhenCompleted Q (refused_step n) = Unit {0}
WhenCompleted Q (handed_step h) = Unit {0}

pub as_step_law : (Q : Config → Type 0) (x : Checked Config) → WhenAccepted Q x → WhenCompleted Q (as_step x)
as_step_law Q (refused n) h = tt
as_step_law Q (accepted c) h = h

-- every lending of a list is of at least so many cells
abbrev pub LendEnough : ℕ → List Call → Type 0
LendEnough room [] = Unit {0}
LendEnough room (enters f ∷ ks) = LendEnough room ks
LendEnough room (steps ∷ ks) = LendEnough room ks
LendEnough room (runs target limit ∷ ks) = LendEnough room ks
LendEnough room (runs_unpacked buffer target limit ∷ ks) = LendEnough room ks
LendEnough room (carries ∷ ks) = LendEnough room ks
LendEnough room (abandons target ∷ ks) = LendEnough room ks
LendEnough room (reads a ∷ ks) = LendEnough room ks
LendEnough room (writes a v ∷ ks) = LendEnough room ks
LendEnough room (writes_all numbers ∷ ks) = LendEnough room ks
LendEnough room (lends entities ∷ ks) = (room ≤ length entities) × LendEnough room ks

module _ (file : List ℕ) where
  abbrev P : Program
  P = program_of file

  as_kept : (c c' : Config) → Same c c' → Kept file c c'
  as_kept c c' s =
      record {
        number = s.number;
        cells = subst (λ (es : List ℕ). Keeps (room_in file c) c.entities es) (sym s.cells) (keeps_all (room_in file c) c.entities);
      }

  step_as_kept : (x : Does) (c : Config) (κ : Kind) → HasKind (before_in file c.state.pc (entities_of c) c.cells) κ x → WhenCompleted (Kept file c) (step_as P x c)
  unfolding step_as
  step_as_kept (next p cells) c κ h = record { number = refl; cells = keeps_all (room_in file c) c.entities }
  step_as_kept (puts p entities) c κ (o, keeps) = record { number = refl; cells = keeps }
  step_as_kept (calls f) c κ h =
      let back = c.state.pc +ℤ pos 1 in
      as_step_law (Kept file c) (enter P f back c)
      (guarded (Kept file c) (entry_conditions P f c) (entered P f back c) λ q. as_kept c (entered P f back c) (entered_same P f back c))
  step_as_kept (returns a) c κ h =
      as_step_law (Kept file c) (guard (return_conditions P a c) (returned P a c))
      (guarded (Kept file c) (return_conditions P a c) (returned P a c) λ q. as_kept c (returned P a c) (returned_same P a c))
  step_as_kept (refuses n) c κ h = tt
  step_as_kept (hands_over h) c κ q = tt

  -- a completed statement changes no lent cell past those of the entities
  pub step_kept : (c : Config) → WhenCompleted (Kept file c) (step P c)
  unfolding step
  step_kept c =
      step_as_kept (P.does c.state.pc (entities_of c) c.cells) c (statement_kind file c.state.pc c.cells)
      (statement_has_kind file c.state.pc (entities_of c) c.cells)

  statement_kept : (c : Config) (b : Bool) (s : Stepped) → WhenCompleted (Kept file c) s → Kept file c (statement_outcome c (step_if b s)).config
  statement_kept c true (completed c') h = h
  statement_kept c true (refused_step n) h = kept_one file c
  statement_kept c true (handed_step x) h = kept_one file c
  statement_kept c false s h = kept_one file c

  gone_on : (b : Bool) (c : Config) (rest : Config → Ran) → Kept file c (rest c).config → Kept file c (go_on b c rest).config
  gone_on true c rest h = kept_one file c
  gone_on false c rest h = h

  run_as_kept : (c : Config) (s : Stepped) (target : ℕ) (rest : Config → Ran) → WhenCompleted (Kept file c) s
      → ((c' : Config) → Kept file c' (rest c').config) → Kept file c (run_as s target c rest).config
  run_as_kept c (completed c') target rest h r = kept_more file c c' _ h (gone_on (eqb c'.state.depth target) c' rest (r c'))
  run_as_kept c (refused_step n) target rest h r = kept_one file c
  run_as_kept c (handed_step x) target rest h r = kept_one file c

  run_for_kept : (n target : ℕ) (c : Config) → Kept file c (run_for P n target c).config
  unfolding run_for
  run_for_kept zero target c = kept_one file c
  run_for_kept (suc n) target c = run_as_kept c (step P c) target (λ c'. run_for P n target c') (step_kept c) (λ c'. run_for_kept n target c')

  run_after_kept : (m target limit : ℕ) (c : Config) → Kept file c (run_after m P target limit c).config
  run_after_kept zero target limit c = run_for_kept limit target c
  run_after_kept (suc m) target limit c = kept_one file c

  -- ---- every call

  -- what a call may do to the entities: a statement and a run may write cells of the entities, a lending lends others, and nothing else touches one
  abbrev pub EntitiesBy : Call → Config → Config → Type 0
  EntitiesBy (enters f) c c' = Same c c'
  EntitiesBy steps c c' = Kept file c c'
  EntitiesBy (runs target limit) c c' = Kept file c c'
  EntitiesBy (runs_unpacked buffer target limit) c c' = Kept file c c'
  EntitiesBy carries c c' = Same c c'
  EntitiesBy (abandons target) c c' = Same c c'
  EntitiesBy (reads a) c c' = Same c c'
  EntitiesBy (writes a v) c c' = Same c c'
  EntitiesBy (writes_all numbers) c c' = Same c c'
  EntitiesBy (lends entities) c c' = c' ≡ with_entities c entities

  run_kept : (target limit : ℤ) (c : Config) → Kept file c (run P target limit c).config
  unfolding run
  run_kept target limit c = run_after_kept (judge (run_conditions P target limit c)) (natural target) (natural limit) c

  pub entities_by_law : (k : Call) → Ready file k → (c : Config) → EntitiesBy k c (after P k c)
  unfolding after host_enter statement carry_on abandon raw_write write_all
  entities_by_law (enters f) ready c = kept_same c (host_enter P f c) (guarded (Same c) _ _ λ h. entered_same P _ c.state.pc c)
  entities_by_law steps ready c = statement_kept c (sound P c) (step P c) (step_kept c)
  entities_by_law (runs target limit) ready c = run_kept target limit c
  entities_by_law (runs_unpacked buffer target limit) ready c = subst (λ (r : Ran). Kept file c r.config) (sym (same_run file buffer ready target limit c)) (run_kept target limit c)
  entities_by_law carries ready c = kept_same c (carry_on P c) (guarded (Same c) _ _ λ h. record { number = refl; cells = refl })
  entities_by_law (abandons target) ready c = kept_same c (abandon P target c) (guarded (Same c) _ _ λ h. left_times_same P _ c)
  entities_by_law (reads a) ready c = same c
  entities_by_law (writes a v) ready c = kept_same c (raw_write P a v c) (guarded (Same c) _ _ λ h. record { number = refl; cells = refl })
  entities_by_law (writes_all numbers) ready c = kept_same c (write_all P numbers c) (guarded (Same c) _ _ λ h. record { number = refl; cells = refl })
  entities_by_law (lends entities) ready c = refl

  -- ---- lent entity cells enough

  -- those that are lent suffice for the entities: 13 asks it
  abbrev pub Suffice : Config → Type 0
  Suffice c = room_in file c ≤ length c.entities

  -- after a call that keeps them
  kept_enough : (c c' : Config) (ks : List Call) → Suffice c → LendEnough (room_in file c) ks → Kept file c c' → Suffice c' × LendEnough (room_in file c') ks
  kept_enough c c' ks enough lent k =
      let room : room_in file c' ≡ room_in file c = ap (λ (n : ℕ). n * (contents_of file).entityfields) k.number in
      (omega (arith, enough, room, k.cells.same_length), subst (λ (n : ℕ). LendEnough n ks) (sym room) lent)

  enough_after : (k : Call) (ks : List Call) (c c' : Config) → EntitiesBy k c c' → Suffice c → LendEnough (room_in file c) (k ∷ ks)
      → Suffice c' × LendEnough (room_in file c') ks
  enough_after (enters f) ks c c' by enough lent = kept_enough c c' ks enough lent (as_kept c c' by)
  enough_after steps ks c c' by enough lent = kept_enough c c' ks enough lent by
  enough_after (runs target limit) ks c c' by enough lent = kept_enough c c' ks enough lent by
  enough_after (runs_unpacked buffer target limit) ks c c' by enough lent = kept_enough c c' ks enough lent by
  enough_after carries ks c c' by enough lent = kept_enough c c' ks enough lent (as_kept c c' by)
  enough_after (abandons target) ks c c' by enough lent = kept_enough c c' ks enough lent (as_kept c c' by)
  enough_after (reads a) ks c c' by enough lent = kept_enough c c' ks enough lent (as_kept c c' by)
  enough_after (writes a v) ks c c' by enough lent = kept_enough c c' ks enough lent (as_kept c c' by)
  enough_after (writes_all numbers) ks c c' by enough lent = kept_enough c c' ks enough lent (as_kept c c' by)
  enough_after (lends entities) ks c c' by enough lent = rw by lent

  -- what holds between the calls of a list where the lent entity cells suffice, holds throughout where every lending is of enough
  pub while_enough : (Step : StepProperty) (At At' : StateProperty) → ((c : Config) (l : Log) → At c l → Suffice c → At' c l)
      → (c : Config) (l : Log) (ks : List Call) → AllReady file ks → Suffice c → LendEnough (room_in file c) ks → Always file Step At c l ks → Always file Step At' c l ks
  while_enough Step At At' then c l [] ready enough lent h = then c l h enough
  while_enough Step At At' then c l (k ∷ ks) ready enough lent h =
      let later = enough_after k ks c (after P k c) (entities_by_law k ready.0 c) enough lent in (
        then c l h.0 enough,
        h.1,
        h.2,
        while_enough Step At At' then (after P k c) (log_after_steps file k c l (small_steps P k c)) ks ready.1 later.0 later.1 h.3,
      )

-- ---- which entity cells a statement writes

-- how many cells a value of a type has
abbrev pub width_of : ℕ → ℕ
width_of t = cond (eqb t vector) 3 1

-- `width` cells from `at` on have taken those of `source` from `from` on, and every other cell is as it was
pub record Written (before after source : List ℕ) (from at width : ℕ) : Type 0 where
  pub same_length : length after ≡ length before
  pub below : take at after ≡ take at before
  pub above : drop (at + width) after ≡ drop (at + width) before
  pub taken : (i : ℕ) → i < width → at + i < length before → get_or after (at + i) 0 ≡ get_or source (from + i) 0

written_one : (source : List ℕ) (i : ℕ) (to : List ℕ) (j : ℕ) → Written to (set to j (get_or source i 0)) source i j 1
written_one source i to j =
    let x = get_or source i 0 in
    record {
      same_length = length-set to j x;
      below = take-set-le j to j x (omega arith);
      above = drop-set-lt (j + 1) to j x (omega arith);
      taken = go;
    }
  where
    go : (k : ℕ) → k < 1 → j + k < length to → get_or (set to j (get_or source i 0)) (j + k) 0 ≡ get_or source (i + k) 0
    go zero h fits = rw (add-zero j, add-zero i) (get_or-set_same to j (get_or source i 0) 0 (omega (arith, fits)))
    go (suc k) h fits = absurd (omega (arith, h))

written_three : (source : List ℕ) (i : ℕ) (to : List ℕ) (j : ℕ)
    → Written to (set (set (set to j (get_or source i 0)) (j + 1) (get_or source (i + 1) 0)) (j + 2) (get_or source (i + 2) 0)) source i j 3
written_three source i to j =
    record {
      same_length = length-set two (j + 2) z ∙ length-set one (j + 1) y ∙ length-set to j x;
      below = take-set-le j two (j + 2) z (omega arith) ∙ take-set-le j one (j + 1) y (omega arith) ∙ take-set-le j to j x (omega arith);
      above = drop-set-lt (j + 3) two (j + 2) z (omega arith) ∙ drop-set-lt (j + 3) one (j + 1) y (omega arith) ∙ drop-set-lt (j + 3) to j x (omega arith);
      taken = go;
    }
  where
    x : ℕ
    x = get_or source i 0

    y : ℕ
    y = get_or source (i + 1) 0

    z : ℕ
    z = get_or source (i + 2) 0

    one : List ℕ
    one = set to j (get_or source i 0)

    two : List ℕ
    two = set (set to j (get_or source i 0)) (j + 1) (get_or source (i + 1) 0)

    go : (k : ℕ) → k < 3 → j + k < length to
        → get_or (set (set (set to j (get_or source i 0)) (j + 1) (get_or source (i + 1) 0)) (j + 2) (get_or source (i + 2) 0)) (j + k) 0 ≡ get_or source (i + k) 0
    go zero h fits =
        rw (add-zero j, add-zero i)
        (get_or-set_other two (j + 2) j z 0 (λ e. omega arith) ∙ get_or-set_other one (j + 1) j y 0 (λ e. omega arith) ∙ get_or-set_same to j x 0 (omega (arith, fits)))
    go (suc zero) h fits =
        get_or-set_other two (j + 2) (j + 1) z 0 (λ e. omega arith) ∙ get_or-set_same one (j + 1) y 0 (omega (arith, fits, length-set to j x))
    go (suc (suc zero)) h fits = get_or-set_same two (j + 2) z 0 (omega (arith, fits, length-set one (j + 1) y, length-set to j x))
    go (suc (suc (suc k))) h fits = absurd (omega (arith, h))

-- a value that ends at a cell below a count
pub width_inside : (t cell count : ℕ) → last_of t cell < count → cell + width_of t ≤ count
width_inside t cell count h = go (eqb t vector) h
  where
    go : (b : Bool) → cond b (cell + 2) cell < count → cell + cond b 3 1 ≤ count
    go true h = omega (arith, h)
    go false h = omega (arith, h)

-- a value of a type that is moved
pub moved_written : (t : ℕ) (source : List ℕ) (i : ℕ) (to : List ℕ) (j : ℕ) → Written to (value_moved t source i to j) source i j (width_of t)
unfolding value_moved
moved_written t source i to j = go (eqb t vector)
  where
    go : (b : Bool)
        → Written to
        (cond b (set (set (set to j (get_or source i 0)) (j + 1) (get_or source (i + 1) 0)) (j + 2) (get_or source (i + 2) 0)) (set to j (get_or source i 0)))
        source i j (cond b 3 1)
    go true = written_three source i to j
    go false = written_one source i to j

-- ---- the table of opcodes: which write through a pointer, which call, which go to the host

-- how many cells the opcodes 37 to 42 write: StorePV three, the others one
abbrev pub width_at : ℕ → ℕ
width_at op = cond (eqb op 38) 3 1

abbrev as_opcode : ℕ → Shape → Bool
as_opcode op (floats f) = true
as_opcode op (values t f) = true
as_opcode op (vectors ta tb f) = true
as_opcode op (vectors_to_float f) = true
as_opcode op (strings when) = true
as_opcode op (negates t f) = true
as_opcode op negates_v = true
as_opcode op negates_s = true
as_opcode op (stores t) = true
as_opcode op stores_v = true
as_opcode op (loads t) = true
as_opcode op addresses = true
as_opcode op (stores_p t) = between 37 42 op && eqb (width_of t) (width_at op)
as_opcode op (branches when) = true
as_opcode op jumps = true
as_opcode op call = between 51 59 op
as_opcode op return = true
as_opcode op host = eqb op 60

table : every as_opcode 0 opcodes ≡ true
unfolding opcodes
table = refl

as_opcode_law : (op : ℕ) → op < opcode_count → as_opcode op (shape_of op) ≡ true
unfolding shape_of opcodes
as_opcode_law op h =
    let e : as_opcode (0 + op) (shape_of op) ≡ true = every_at as_opcode host opcodes 0 table op h in
    rw zero-add at e

-- ---- what a statement that writes fields, or goes to the host, is

-- a claim about the entity cells that a statement writes, and one about what it hands over
abbrev Claims : (ℤ → List ℕ → Type 0) → (Handover → Type 0) → Does → Type 0
Claims W H (next p cells) = Unit {0}
Claims W H (puts p entities) = W p entities
Claims W H (calls f) = Unit {0}
Claims W H (returns a) = Unit {0}
Claims W H (refuses n) = Unit {0}
Claims W H (hands_over h) = H h

-- the statement st, with these cells and entities, writes the value in its first operand to a field of an entity that is there: the one that the pointer in its
-- second operand names, and no other
pub record Put (k : Tables) (p : ℤ) (st : Statement) (e : Entities) (cells : List ℕ) (p' : ℤ) (entities' : List ℕ) : Type 0 where
  pub least : 37 ≤ st.opcode
  pub most : st.opcode ≤ 42
  pub position : p' ≡ p +ℤ pos 1
  pub number : ℕ
  pub field : ℕ
  pub there : number < e.count
  pub inside : field + width_at st.opcode ≤ k.fields.count
  pub pointed : get_or cells (cell_of st.arg2) 0 ≡ (number * k.fields.count + field) * 4
  pub writes : Written e.cells entities' cells (cell_of st.arg1) (number * k.fields.count + field) (width_at st.opcode)

-- a Call of a builtin that is none of R-1's four
pub record HostBuiltin (functions : List FunctionDef) (st : Statement) (cells : List ℕ) (n : ℕ) : Type 0 where
  pub least : 51 ≤ st.opcode
  pub most : st.opcode ≤ 59
  pub present : get_or cells (cell_of st.arg1) 0 < length functions
  pub builtin : is_builtin (get_or functions (get_or cells (cell_of st.arg1) 0) no_function) ≡ true
  pub known : builtin_number n ≡ true
  pub number : builtin_of (get_or functions (get_or cells (cell_of st.arg1) 0) no_function) ≡ n
  pub not_rounding : (n ≢ 43) × (n ≢ 37) × (n ≢ 38) × (n ≢ 36)

-- "Only opcode 60 and the other builtins still go to the host"
abbrev pub GoesToHost : Tables → Statement → List ℕ → Handover → Type 0
GoesToHost k st cells (Builtin n) = HostBuiltin k.functions st cells n
GoesToHost k st cells (Opcode n) = (n ≡ 60) × (st.opcode ≡ 60)

provided_claims : (W : ℤ → List ℕ → Type 0) (H : Handover → Type 0) (cs : Conditions) (d : Does) → (All cs → Claims W H d) → Claims W H (provided cs d)
provided_claims W H cs d is = go (judge cs) refl
  where
    go : (n : ℕ) → judge cs ≡ n → Claims W H (or_refused n d)
    go zero e = is (judge_passed cs e)
    go (suc n) e = tt

-- a builtin that is not rounding is none of the four
some_not_none : (f : ℕ → ℕ) → some f ≡ none → ⊥
some_not_none f e = let z : ◌≡◌ {A = ℕ} 0 1 = cc in omega arith

none_of_four : (n : ℕ) → rounding_of n ≡ none → (n ≢ 43) × (n ≢ 37) × (n ≢ 38) × (n ≢ 36)
unfolding rounding_of
none_of_four n e = (
  λ i. some_not_none fabs_f (subst (λ (m : ℕ). rounding_of m ≡ none) i e),
  λ i. some_not_none floor_f (subst (λ (m : ℕ). rounding_of m ≡ none) i e),
  λ i. some_not_none ceil_f (subst (λ (m : ℕ). rounding_of m ≡ none) i e),
  λ i. some_not_none rint_f (subst (λ (m : ℕ). rounding_of m ≡ none) i e),
)

module _ (k : Tables) (p : ℤ) (st : Statement) (e : Entities) (cells : List ℕ) where
  abbrev Statement-claims : Does → Type 0
  Statement-claims = Claims (Put k p st e cells) (GoesToHost k st cells)

  -- what a pointer names
  put_claims : (t : ℕ) → (between 37 42 st.opcode && eqb (width_of t) (width_at st.opcode)) ≡ true
      → All (stores_p_effect t k.globals k.fields e (cell_of st.arg1) (cell_of st.arg2) (cell_of st.arg3) cells).conditions
      → Put k p st e cells (p +ℤ pos 1) (stores_p_effect t k.globals k.fields e (cell_of st.arg1) (cell_of st.arg2) (cell_of st.arg3) cells).cells
  unfolding stores_p_effect
  put_claims t row q =
      let a = cell_of st.arg1 in
      let b = cell_of st.arg2 in
      let c = cell_of st.arg3 in
      let g = k.globals in
      let h = k.fields in
      let size = h.count in
      let pointer_there = get_or cells b 0 in
      let at = pointer_there / 4 in
      let named = at % size in
      let read = unused c ++ read_access g (must_be_natural t) t a cells ++ access g pointer b in
      let there = (points_at_field h e pointer_there otherwise 32) ∷ [] in
      let front = all_front (read ++ there ++ field_access h t named) _ q in
      let points = (all_back read there (all_front (read ++ there) (field_access h t named) front)).0 in
      let last : last_of t named < size = fields_below h t named (all_back (read ++ there) (field_access h t named) front) in
      let range = and_left (between 37 42 st.opcode) (eqb (width_of t) (width_at st.opcode)) row in
      let width : width_of t ≡ width_at st.opcode = eqb-true _ _ (and_right (between 37 42 st.opcode) (eqb (width_of t) (width_at st.opcode)) row) in
      let split : at / size * size + named ≡ at = pointer_cell at size in
      let fourth : pointer_there % 4 ≡ 0 =
      eqb-true _ _ (and_right (not (negative pointer_there)) (eqb (pointer_there % 4) 0)
      (and_left (not (negative pointer_there) && eqb (pointer_there % 4) 0) (ltb (at / size) e.count) points))
      in
      record {
        least = leb-true 37 st.opcode (and_left (leb 37 st.opcode) (leb st.opcode 42) range);
        most = leb-true st.opcode 42 (and_right (leb 37 st.opcode) (leb st.opcode 42) range);
        position = refl;
        number = at / size;
        field = named;
        there = ltb-true _ _ (and_right (not (negative pointer_there) && eqb (pointer_there % 4) 0) (ltb (at / size) e.count) points);
        inside = subst (λ (w : ℕ). named + w ≤ size) width (width_inside t named size last);
        pointed = omega (arith, split, fourth, pointer_cell pointer_there 4);
        writes = subst (λ (w : ℕ). Written e.cells (value_moved t cells a e.cells at) cells a (at / size * size + named) w) width
            (subst (λ (i : ℕ). Written e.cells (value_moved t cells a e.cells at) cells a i (width_of t)) (sym split) (moved_written t cells a e.cells at));
      }

  -- a statement that writes cells claims nothing of the two
  plainly : (x : Effect) → Statement-claims (effect_does p x)
  plainly x = provided_claims (Put k p st e cells) (GoesToHost k st cells) x.conditions _ λ h. tt

  builtin_claims : (rounding : Option (ℕ → ℕ)) (n : ℕ) → (rounding ≡ none → HostBuiltin k.functions st cells n)
      → Statement-claims (builtin_does rounding n k.globals p cells)
  builtin_claims (some f) n is = provided_claims (Put k p st e cells) (GoesToHost k st cells) _ _ λ h. tt
  builtin_claims none n is = is refl

  call_claims : between 51 59 st.opcode ≡ true → Statement-claims (call_of k.functions k.globals p (get_or cells (cell_of st.arg1) 0) cells)
  unfolding call_of
  call_claims row = provided_claims (Put k p st e cells) (GoesToHost k st cells) _ _ λ h. go h (is_builtin d) refl
    where
      f : ℕ
      f = get_or cells (cell_of st.arg1) 0

      d : FunctionDef
      d = get_or k.functions f no_function

      number_known : is_builtin d ≡ true → builtin_known d ≡ true → builtin_number (builtin_of d) ≡ true
      number_known b known = rw b at known

      go : All ((not (eqb f 0) otherwise 19) ∷ (ltb f (length k.functions) otherwise 20) ∷ (builtin_known d otherwise 5) ∷ [])
          → (b : Bool) → is_builtin d ≡ b
          → Statement-claims (cond b (builtin_does (rounding_of (builtin_of d)) (builtin_of d) k.globals p cells) (calls f))
      go h true b = builtin_claims (rounding_of (builtin_of d)) (builtin_of d) λ none_is.
          record {
            least = leb-true 51 st.opcode (and_left (leb 51 st.opcode) (leb st.opcode 59) row);
            most = leb-true st.opcode 59 (and_right (leb 51 st.opcode) (leb st.opcode 59) row);
            present = ltb-true f (length k.functions) h.1.0;
            builtin = b;
            known = number_known b h.1.1.0;
            number = refl;
            not_rounding = none_of_four (builtin_of d) none_is;
          }
      go h false b = tt

  executed_claims : (s : Shape) → as_opcode st.opcode s ≡ true
      → Statement-claims (execute_as s k p st (cell_of st.arg1) (cell_of st.arg2) (cell_of st.arg3) e cells)
  unfolding branches_do call_does
  executed_claims (floats f) row = plainly _
  executed_claims (values t f) row = plainly _
  executed_claims (vectors ta tb f) row = plainly _
  executed_claims (vectors_to_float f) row = plainly _
  executed_claims (strings when) row = plainly _
  executed_claims (negates t f) row = plainly _
  executed_claims negates_v row = plainly _
  executed_claims negates_s row = plainly _
  executed_claims (stores t) row = plainly _
  executed_claims stores_v row = plainly _
  executed_claims (loads t) row = plainly _
  executed_claims addresses row = plainly _
  executed_claims (stores_p t) row = provided_claims (Put k p st e cells) (GoesToHost k st cells) _ _ (put_claims t row)
  executed_claims (branches when) row = provided_claims (Put k p st e cells) (GoesToHost k st cells) _ _ λ h. tt
  executed_claims jumps row = tt
  executed_claims call row = provided_claims (Put k p st e cells) (GoesToHost k st cells) _ _ λ h. call_claims row
  executed_claims return row = tt
  executed_claims host row = let sixty : st.opcode ≡ 60 = eqb-true st.opcode 60 row in (sixty, sixty)

-- the statement at a position of a file
abbrev pub at : List ℕ → ℤ → Statement
at file p = statement_at (contents_of file).statements p

does_claims : (file : List ℕ) (p : ℤ) (e : Entities) (cells : List ℕ)
    → Claims (Put (tables_of (contents_of file)) p (at file p) e cells) (GoesToHost (tables_of (contents_of file)) (at file p) cells) ((program_of file).does p e cells)
unfolding program_with does_at execute fetch_conditions
does_claims file p e cells =
    provided_claims (Put (tables_of (contents_of file)) p (at file p) e cells) (GoesToHost (tables_of (contents_of file)) (at file p) cells) _ _ λ h.
    executed_claims (tables_of (contents_of file)) p (at file p) e cells (shape_of (at file p).opcode) (as_opcode_law (at file p).opcode (ltb-true _ _ h.1.0))

-- a statement that completes by writing a field
pub put_exactly : (file : List ℕ) (p : ℤ) (e : Entities) (cells : List ℕ) (p' : ℤ) (entities' : List ℕ)
    → (program_of file).does p e cells ≡ puts p' entities' → Put (tables_of (contents_of file)) p (at file p) e cells p' entities'
put_exactly file p e cells p' entities' is =
    subst (Claims (Put (tables_of (contents_of file)) p (at file p) e cells) (GoesToHost (tables_of (contents_of file)) (at file p) cells)) is (does_claims file p e cells)

-- a statement that is handed over
pub handed_over : (file : List ℕ) (p : ℤ) (e : Entities) (cells : List ℕ) (h : Handover)
    → (program_of file).does p e cells ≡ hands_over h → GoesToHost (tables_of (contents_of file)) (at file p) cells h
handed_over file p e cells h is =
    subst (Claims (Put (tables_of (contents_of file)) p (at file p) e cells) (GoesToHost (tables_of (contents_of file)) (at file p) cells)) is (does_claims file p e cells)

-- opcode 60 always is
pub sixty_handed_over : (file : List ℕ) (p : ℤ) (e : Entities) (cells : List ℕ) → All ((program_of file).fetching p) → (at file p).opcode ≡ 60
    → (program_of file).does p e cells ≡ hands_over (Opcode 60)
unfolding program_with does_at execute shape_of opcodes
sixty_handed_over file p e cells h is = rw (judge_all (fetch_conditions (contents_of file).statements p) h, is) (ap (λ (n : ℕ). hands_over (Opcode n)) is)

false_not_true : false ≡ true → ⊥
false_not_true e = let z : ◌≡◌ {A = ℕ} 0 1 = cc in omega arith

-- "27: that statement, with the cells as they now are, would not be handed over": only one that is passes, so neither one that writes cells nor one that
-- writes entity cells
pub is_handed_over_law : (x : Does) → is_handed_over x ≡ true → (h : Handover) × (x ≡ hands_over h)
is_handed_over_law (next p cells) e = absurd (false_not_true e)
is_handed_over_law (puts p entities) e = absurd (false_not_true e)
is_handed_over_law (calls f) e = absurd (false_not_true e)
is_handed_over_law (returns a) e = absurd (false_not_true e)
is_handed_over_law (refuses n) e = absurd (false_not_true e)
is_handed_over_law (hands_over h) e = (h, refl)

-- what is carried on over is a statement that goes to the host: opcode 60, or a Call of a builtin that is none of R-1's four
pub carried_over : (file : List ℕ) (c c' : Config) → carry_on (program_of file) c ≡ accepted c'
    → (h : Handover) × ((program_of file).does c.state.pc (entities_of c) c.cells ≡ hands_over h)
    × GoesToHost (tables_of (contents_of file)) (at file c.state.pc) c.cells h
unfolding carry_on carry_on_conditions
carried_over file c c' e =
    let P = program_of file in
    let fetching = (sound P c otherwise 13) ∷ P.fetching c.state.pc in
    let does = P.does c.state.pc (entities_of c) c.cells in
    let handed = is_handed_over_law does (all_back fetching ((is_handed_over does otherwise 27) ∷ []) (accepted_all _ _ c' e).0).0 in
    (handed.0, handed.1, handed_over file c.state.pc (entities_of c) c.cells handed.0 handed.1)

-- a statement that completes leaves every lent entity cell as it was, or writes the one field that its pointer names
pub step_writes : (file : List ℕ) (c c' : Config) → step (program_of file) c ≡ completed c'
    → Same c c' ⊎ Put (tables_of (contents_of file)) c.state.pc (at file c.state.pc) (entities_of c) c.cells c'.state.pc c'.entities
unfolding step step_as guard
step_writes file c c' e = go ((program_of file).does c.state.pc (entities_of c) c.cells) refl e
  where
    P : Program
    P = program_of file

    completes : (cs : Conditions) (a : Config) → as_step (guard cs a) ≡ completed c' → Same c a → Same c c'
    completes cs a e s = chosen (judge cs) e
      where
        chosen : (n : ℕ) → as_step (decided n a) ≡ completed c' → Same c c'
        chosen zero e = subst (Same c) (let z : a ≡ c' = cc in z) s
        chosen (suc n) e = absurd (let z : ◌≡◌ {A = ℕ} 0 1 = cc in omega arith)

    go : (x : Does) → (program_of file).does c.state.pc (entities_of c) c.cells ≡ x → step_as (program_of file) x c ≡ completed c'
        → Same c c' ⊎ Put (tables_of (contents_of file)) c.state.pc (at file c.state.pc) (entities_of c) c.cells c'.state.pc c'.entities
    go (next q cells) is e = inl (subst (Same c) (let z : advanced c q cells c.entities ≡ c' = cc in z) (record { number = refl; cells = refl }))
    go (puts q entities) is e =
        let z : advanced c q c.cells entities ≡ c' = cc in
        inr
        (subst
        (λ (y : Config). Put (tables_of (contents_of file)) c.state.pc (at file c.state.pc) (entities_of c) c.cells y.state.pc y.entities) z
        (put_exactly file c.state.pc (entities_of c) c.cells q entities is))
    go (calls f) is e = inl (completes (entry_conditions P f c) (entered P f (c.state.pc +ℤ pos 1) c) e (entered_same P f (c.state.pc +ℤ pos 1) c))
    go (returns a) is e = inl (completes (return_conditions P a c) (returned P a c) e (returned_same P a c))
    go (refuses n) is e = absurd (let z : ◌≡◌ {A = ℕ} 0 1 = cc in omega arith)
    go (hands_over h) is e = absurd (let z : ◌≡◌ {A = ℕ} 0 1 = cc in omega arith)

-- ---- over lists of calls

-- no entry and no leaving touches an entity cell: what was written in a function stays when it is left
abbrev pub TransfersKeep : StepProperty
TransfersKeep (entry f back) c l c' = Same c c'
TransfersKeep leaving c l c' = Same c c'
TransfersKeep other c l c' = Unit {0}

transfers_inductive : (file : List ℕ) → Inductive file (λ c l. Unit {0}) TransfersKeep
transfers_inductive file =
    record {
      plain = λ c l p cells entities k keeps puts. (tt, tt);
      writing = λ c l cells k keeps. (tt, tt);
      lending = λ c l entities k. (tt, tt);
      entering = λ c l f back k h. (entered_same (program_of file) f back c, tt);
      returning = λ c l a k h. (returned_same (program_of file) a c, tt);
      leave_one = λ c l k h. (left_same (program_of file) c, tt);
    }

pub transfers_keep_law : (file : List ℕ) (c : Config) (l : Log) (ks : List Call) → AllReady file ks → Always file TransfersKeep (λ c' l'. Unit {0}) c l ks
transfers_keep_law file c l ks ready = always file (λ c' l'. Unit {0}) TransfersKeep (transfers_inductive file) (λ c' l'. Unit {0}) (λ c' l' k. tt) c l ks ready tt

-- "The return guarantee then also covers runs that write entities", "though between calls the host may change any": demand 3 holds of a list in which others
-- are lent after any call
pub returns_over_lendings : (s : Settings) (file : List ℕ) (n : ℤ) (cells saved entities : List ℕ) (c : Config) → load s file n cells saved entities ≡ accepted c
    → (ks : List Call) (lent : List ℕ) (more : List Call) → AllReady file (ks ++ (lends lent ∷ more)) → Always file (StepCorrect s file) (DepthsMatch s file) c [] (ks ++ (lends lent ∷ more))
unfolding Demand3
returns_over_lendings s file n cells saved entities c accepts ks lent more ready = demand3 s file n cells saved entities c accepts (ks ++ (lends lent ∷ more)) ready
