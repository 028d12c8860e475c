-- After an accepted load check 13 refuses no call of any list, as long as the host lends entity cells enough, and what the load records stays. So demand 3
-- does not hold merely because calls are refused.
use Rattle.std.specs.Prelude.{ℕ, zero, suc, ◌+◌, ◌-◌, ◌*◌, ◌≤◌, ◌<◌, ◌≡◌, refl, List, [], ◌∷◌, ◌++◌, Bool, true, false, not, ◌&&◌, ℤ, pos, ◌+ℤ◌, length, drop, get_or, set, leb, ltb, eqb}
use Rattle.std.proofs.Common.{sym, ◌∙◌, ap, subst, arith, ltb-true, leb-true, le-leb, eq-eqb, eqb-true, length-set, length-drop, length-append, get_or-set_same, get_or-set_other}
use Rattle.std.proofs.lemmas.List.{length-replicate}
use Rattle.std.proofs.Math.Seq.{paste}
use Rattle.std.proofs.lemmas.List.Edits.{length-paste}
use Rattle.std.proofs.Math.Dec.{eqb_refl}
use Rattle.definition.specs.declared.Settings.{Settings}
use Rattle.definition.specs.declared.Lump.{Lump}
use Rattle.definition.specs.declared.FileRecord.{FileRecord}
use Rattle.definition.specs.declared.FunctionDef.{FunctionDef}
use Rattle.definition.specs.declared.StackFrame.{StackFrame}
use Rattle.definition.specs.Checks.{Condition, Conditions, Checked, refused, accepted, guard}
use Rattle.definition.specs.File.{least_cells, saved_store, most_entities, greatest_depth, negative, file_of, contents_of, length_fits, lumps_fit, cells_fit, entity_fits, contents_at, settings_fit}
use Rattle.definition.specs.Machine.{Program, function_of, State, Config, count_of, zero_frame, start_state, entities_fit, present, copied, successive, arguments_of, with_cells, advanced}
use Rattle.definition.specs.Machine.{entry_conditions, entered, leave_conditions, left, return_conditions, returned}
use Rattle.definition.specs.Load.{header_conditions, record_conditions, cell_conditions, load_conditions, loaded, entities_given, load, same_lump, same_file, recorded_in, program_with, program_of}
use Rattle.definition.specs.Operations.{frame_functions, entered_at, entered_functions, all_present, locals_of, sound}
use Rattle.definition.specs.Calls.{Call}
use Rattle.definition.specs.Unpacked.{AllReady}
use Rattle.definition.specs.Log.{Log, Kind, entry, leaving, other}
use Rattle.definition.specs.Trace.{StepProperty, StateProperty, Always}
use Rattle.definition.specs.CheckLaws.{All, WhenAccepted}
use Rattle.definition.proofs.CheckLaws.{and_left, and_right, and_both, guarded}
use Rattle.definition.specs.Parts.{Present}
use Rattle.definition.proofs.Parts.{present_true, present_more, present_source, length_pasted, length_copied}
use Rattle.definition.proofs.RecordLaws.{length_globals}
use Rattle.definition.proofs.LoadLaws.{settings_fit_law, load_rows_law}
use Rattle.definition.specs.StatementLaws.{Keeps}
use Rattle.definition.specs.Invariant.{Preserves, Inductive, room_in}
use Rattle.definition.proofs.Invariant.{always}
use Rattle.laws.specs.Starts.{load_starts}
use Rattle.laws.specs.Entities.{Suffice, LendEnough, while_enough}

-- ---- the entered functions, after an entry and after a leaving

-- frames above k do not count among those from k down
frames_set : (k j : ℕ) (frames : List StackFrame) (x : StackFrame) → k < j → frame_functions k (set frames j x) ≡ frame_functions k frames
unfolding frame_functions
frames_set zero j frames x h = refl
frames_set (suc k) j frames x h =
    rw (get_or-set_other frames j (suc k) x zero_frame (omega arith), frames_set k j frames x (omega arith))

pub entered_more : (k f : ℕ) (frames : List StackFrame) (x : StackFrame) → k < length frames
    → entered_at (suc k) f (set frames k x) ≡ f ∷ entered_at k x.func_id frames
unfolding frame_functions
entered_more zero f frames x h = refl
entered_more (suc k) f frames x h =
    rw (get_or-set_same frames (suc k) x zero_frame h, frames_set k (suc k) frames x (omega arith))

pub entered_less : (k f : ℕ) (frames : List StackFrame)
    → entered_at (suc k) f frames ≡ f ∷ entered_at k (get_or frames k zero_frame).func_id (set frames k zero_frame)
unfolding frame_functions
entered_less zero f frames = refl
entered_less (suc k) f frames = rw (frames_set k (suc k) frames zero_frame (omega arith))

-- ---- what 13 asks of the state, as facts

pub record StackConsistent (P : Program) (s : State) : Type 0 where
  pub room : greatest_depth ≤ length s.frames
  pub fit : settings_fit s.settings ≡ true
  pub depth_most : s.depth ≤ s.settings.depth
  pub all : all_present P (entered_functions s) ≡ true
  pub sum : s.saved ≡ locals_of P (entered_functions s)
  pub saved_most : s.saved ≤ s.settings.saved

-- the greatest depth and saved count of the settings are at most 01's
pub depth_bound : (P : Program) (s : State) → StackConsistent P s → s.settings.depth ≤ greatest_depth
depth_bound P s k = (settings_fit_law s.settings k.fit).depth_most

pub saved_bound : (P : Program) (s : State) → StackConsistent P s → s.settings.saved ≤ saved_store
saved_bound P s k = (settings_fit_law s.settings k.fit).saved_most

-- and of the file and the buffers: the inductive invariant
pub record Consistent (file : List ℕ) (c : Config) : Type 0 where
  pub stack : StackConsistent (program_of file) c.state
  pub long : saved_store ≤ length c.saved
  pub recorded : c.state.file ≡ file_of file
  pub enough : count_of c ≤ length c.cells
  pub few : c.state.entity_count ≤ most_entities
  pub in_range : (length_fits (file_of file) && lumps_fit (file_of file) && cells_fit least_cells (file_of file) && entity_fits (file_of file)) ≡ true

same_number : (n : ℕ) → eqb n n ≡ true
same_number n = eq-eqb n n refl

same_lump_law : (l : Lump) → same_lump l l ≡ true
same_lump_law l = rw (same_number l.offset, same_number l.count)

pub same_file_law : (r : FileRecord) → same_file r r ≡ true
unfolding same_file
same_file_law r =
    rw (
      same_number r.length,
      same_lump_law r.statements,
      same_lump_law r.globaldefs,
      same_lump_law r.fielddefs,
      same_lump_law r.functions,
      same_lump_law r.strings,
      same_lump_law r.globals,
      same_number r.entityfields,
    )

consistent_recorded : (file : List ℕ) (c : Config) → Consistent file c → recorded_in least_cells file c.state.file (length c.cells) ≡ true
unfolding recorded_in
consistent_recorded file c k =
    let r = file_of file in
    let lent : leb r.globals.count (length c.cells) ≡ true = le-leb _ _ (rw k.recorded at k.enough) in
    rw (k.recorded, same_file_law r, lent) (and_both _ true k.in_range refl)

consistent_entities : (file : List ℕ) (c : Config) → Consistent file c → Suffice file c
    → entities_fit c.state.entity_count c.state.file.entityfields (length c.entities) ≡ true
unfolding entities_fit contents_at
consistent_entities file c k lent =
    rw (k.recorded, le-leb c.state.entity_count most_entities k.few) (le-leb _ _ lent)

pub consistent_sound : (file : List ℕ) (c : Config) → Consistent file c → Suffice file c → sound (program_of file) c ≡ true
unfolding sound program_with
consistent_sound file c k lent =
    rw (
      consistent_recorded file c k,
      le-leb saved_store (length c.saved) k.long,
      consistent_entities file c k lent,
      k.stack.fit,
      le-leb c.state.depth c.state.settings.depth k.stack.depth_most,
      k.stack.all,
      le-leb c.state.saved c.state.settings.saved k.stack.saved_most,
      eq-eqb c.state.saved (locals_of (program_of file) (entered_functions c.state)) k.stack.sum,
    )

-- ---- preserved by every small step

-- only the position, cells of the same number and entity cells change
pub advanced_consistent : (file : List ℕ) (c : Config) (p : ℤ) (cells entities : List ℕ) → length cells ≡ length c.cells → Consistent file c
    → Consistent file (advanced c p cells entities)
unfolding entered_functions
advanced_consistent file c p cells entities e k =
    record {
      stack =
          record {
            room = k.stack.room;
            fit = k.stack.fit;
            depth_most = k.stack.depth_most;
            all = k.stack.all;
            sum = k.stack.sum;
            saved_most = k.stack.saved_most;
          };
      long = k.long;
      recorded = k.recorded;
      enough = omega (arith, e, k.enough);
      few = k.few;
      in_range = k.in_range;
    }

pub entered_consistent : (file : List ℕ) (c : Config) (f : ℕ) (back : ℤ) → Consistent file c → All (entry_conditions (program_of file) f c)
    → Consistent file (entered (program_of file) f back c)
unfolding entry_conditions entered entered_functions all_present locals_of
entered_consistent file c f back k h =
    let P = program_of file in
    let d = function_of P f in
    let s = c.state in
    let shallow : s.depth < s.settings.depth = ltb-true s.depth s.settings.depth h.1.0 in
    let positive : not (negative d.locals) ≡ true = and_left (not (negative d.locals)) (leb (s.saved + d.locals) s.settings.saved) h.1.1.0 in
    let fits : s.saved + d.locals ≤ s.settings.saved = leb-true _ _ (and_right (not (negative d.locals)) (leb (s.saved + d.locals) s.settings.saved) h.1.1.0) in
    let there : Present d.start d.locals (length c.cells) =
    present_more _ _ (count_of c) _ k.enough (present_true d.start d.locals (count_of c) h.1.1.1.0)
    in
    let frame : StackFrame = record { instr_id = back; func_id = s.function } in
    let e : entered_at (s.depth + 1) f (set s.frames s.depth frame) ≡ f ∷ entered_at s.depth s.function s.frames =
    rw native.Mathlib.Numerals.add-one (entered_more s.depth f s.frames frame (omega (arith, k.stack.room, depth_bound P s k.stack)))
    in
    let same : length (paste c.saved s.saved (drop d.start c.cells) d.locals) ≡ length c.saved =
    length-paste c.saved s.saved (drop d.start c.cells) d.locals (omega (arith, k.long, saved_bound P s k.stack)) (present_source c.cells d.start d.locals there)
    in
    record {
      stack =
          record {
            room = omega (arith, k.stack.room, length-set s.frames s.depth frame);
            fit = k.stack.fit;
            depth_most = omega arith;
            all = rw (e, h.0, positive) k.stack.all;
            sum = rw e (omega (arith, k.stack.sum));
            saved_most = fits;
          };
      long = omega (arith, same, k.long);
      recorded = k.recorded;
      enough = omega (arith, length_copied (arguments_of d) c.cells, k.enough);
      few = k.few;
      in_range = k.in_range;
    }

-- in such a state above depth 0 the saved cells suffice for the function being left
pub suffice : (P : Program) (s : State) → 0 < s.depth → StackConsistent P s → (function_of P s.function).locals ≤ s.saved
unfolding entered_functions locals_of
suffice P s h b =
    let one : s.depth ≡ suc (s.depth - 1) = omega arith in
    let e : entered_at s.depth s.function s.frames ≡ s.function ∷ _ =
    ap (λ (k : ℕ). entered_at k s.function s.frames) one ∙ entered_less (s.depth - 1) s.function s.frames
    in
    omega (arith, b.sum, ap (locals_of P) e)

pub left_consistent : (file : List ℕ) (c : Config) → Consistent file c → All (leave_conditions (program_of file) c) → Consistent file (left (program_of file) c)
unfolding leave_conditions left entered_functions all_present locals_of
left_consistent file c k h =
    let P = program_of file in
    let s = c.state in
    let d = function_of P s.function in
    let deep : 0 < s.depth = ltb-true 0 s.depth h.0 in
    let fewer : d.locals ≤ s.saved = leb-true d.locals s.saved h.1.0 in
    let there : Present d.start d.locals (length c.cells) =
    present_more _ _ (count_of c) _ k.enough (present_true d.start d.locals (count_of c) h.1.1.0)
    in
    let one : s.depth ≡ suc (s.depth - 1) = omega arith in
    let rest : List ℕ = entered_at (s.depth - 1) (get_or s.frames (s.depth - 1) zero_frame).func_id (set s.frames (s.depth - 1) zero_frame) in
    let e : entered_at s.depth s.function s.frames ≡ s.function ∷ rest =
    ap (λ (m : ℕ). entered_at m s.function s.frames) one ∙ entered_less (s.depth - 1) s.function s.frames
    in
    let alls : all_present P (s.function ∷ rest) ≡ true = (rw e at k.stack.all) in
    let source : d.locals ≤ length (drop (s.saved - d.locals) c.saved) =
    omega (arith, fewer, k.stack.saved_most, saved_bound P s k.stack, k.long, length-drop (s.saved - d.locals) c.saved)
    in
    record {
      stack =
          record {
            room = omega (arith, k.stack.room, length-set s.frames (s.depth - 1) zero_frame);
            fit = k.stack.fit;
            depth_most = omega (arith, k.stack.depth_most);
            all = and_right (ltb s.function (length P.functions) && not (negative d.locals)) (all_present P rest) alls;
            sum = omega (arith, k.stack.sum, ap (locals_of P) e);
            saved_most = omega (arith, k.stack.saved_most);
          };
      long = k.long;
      recorded = k.recorded;
      enough = omega (arith, k.enough, length_pasted c.cells d.start (drop (s.saved - d.locals) c.saved) d.locals there source);
      few = k.few;
      in_range = k.in_range;
    }

-- the property that every small step has: for a claim about states alone
abbrev pub AnyStep : StepProperty
AnyStep κ c l c' = Unit {0}

pub returned_consistent : (file : List ℕ) (c : Config) (a : ℕ) → Consistent file c → All (return_conditions (program_of file) a c) → Consistent file (returned (program_of file) a c)
unfolding leave_conditions
returned_consistent file c a k h =
    let cells = copied (successive 3 a 1) c.cells in
    left_consistent file (with_cells c cells) (advanced_consistent file c c.state.pc cells c.entities (length_copied (successive 3 a 1) c.cells) k) h.1

pub consistent_inductive : (file : List ℕ) → Inductive file (λ c l. Consistent file c) AnyStep
consistent_inductive file =
    record {
      plain = λ c l p cells entities k keeps puts. (tt, advanced_consistent file c p cells entities keeps.same_length k);
      writing = λ c l cells k keeps. (tt, advanced_consistent file c c.state.pc cells c.entities keeps.same_length k);
      lending = λ c l entities k. (tt, advanced_consistent file c c.state.pc c.cells entities refl k);
      entering = λ c l f back k h. (tt, entered_consistent file c f back k h);
      returning = λ c l a k h. (tt, returned_consistent file c a k h);
      leave_one = λ c l k h. (tt, left_consistent file c k h);
    }

-- ---- the load

pub loaded_consistent : (s : Settings) (file : List ℕ) (n : ℤ) (cells saved entities : List ℕ) → WhenAccepted (Consistent file) (load s file n cells saved entities)
unfolding load loaded header_conditions cell_conditions entities_fit entered_functions all_present locals_of
loaded_consistent s file n cells saved entities =
    guarded (Consistent file) _ _ λ h.
    let r = file_of file in
    let k = contents_of file in
    let rows = load_rows_law least_cells s.check_number file (entities_given n) (length cells) (length saved) (length entities) h.1 in
    record {
      stack =
          record {
            room = omega (arith, length-replicate greatest_depth zero_frame);
            fit = h.0;
            depth_most = omega arith;
            all = refl;
            sum = refl;
            saved_most = omega arith;
          };
      long = leb-true saved_store (length saved) (and_right (leb r.globals.count (length cells)) (leb saved_store (length saved)) rows.cells.1.1.0);
      recorded = refl;
      enough = omega (arith, length-append k.globals (drop r.globals.count cells), length_globals file);
      few = leb-true _ _ (and_left (leb (entities_given n) most_entities) _ rows.fields.0);
      in_range =
          and_both (length_fits r && lumps_fit r && cells_fit least_cells r) (entity_fits r)
          (and_both (length_fits r && lumps_fit r) (cells_fit least_cells r) (and_both (length_fits r) (lumps_fit r) rows.header.0 rows.header.1.1.1.0) rows.cells.0)
          rows.cells.1.0;
    }

-- what holds of every state that a list of calls reaches
pub record AsLoaded (file : List ℕ) (c : Config) (l : Log) : Type 0 where
  -- check 13 does not refuse, where the lent entity cells suffice
  pub passes : Suffice file c → sound (program_of file) c ≡ true
  -- what the load records stays
  pub recorded : c.state.file ≡ file_of file

pub never_13 : (s : Settings) (file : List ℕ) (n : ℤ) (cells saved entities : List ℕ) (c : Config) → load s file n cells saved entities ≡ accepted c → (calls : List Call) → AllReady file calls
    → Always file AnyStep (AsLoaded file) c [] calls
never_13 s file n cells saved entities c accepts calls ready =
    always file (λ c' l. Consistent file c') AnyStep (consistent_inductive file) (AsLoaded file)
    (λ c' l k. record { passes = consistent_sound file c' k; recorded = k.recorded })
    c [] calls ready (subst (WhenAccepted (Consistent file)) accepts (loaded_consistent s file n cells saved entities))

loaded_suffices : (s : Settings) (file : List ℕ) (n : ℤ) (cells saved entities : List ℕ) → WhenAccepted (Suffice file) (load s file n cells saved entities)
unfolding load loaded entities_fit contents_at
loaded_suffices s file n cells saved entities =
    guarded (Suffice file) _ _ λ h.
    let rows = load_rows_law least_cells s.check_number file (entities_given n) (length cells) (length saved) (length entities) h.1 in
    leb-true _ _ (and_right (leb (entities_given n) most_entities) (leb (entities_given n * (file_of file).entityfields) (length entities)) rows.fields.0)

-- the lent entity cells of an accepted load suffice
pub load_suffices : (s : Settings) (file : List ℕ) (n : ℤ) (cells saved entities : List ℕ) (c : Config) → load s file n cells saved entities ≡ accepted c → Suffice file c
load_suffices s file n cells saved entities c accepts = subst (WhenAccepted (Suffice file)) accepts (loaded_suffices s file n cells saved entities)

-- "their number given at load and kept in the state"
number_inductive : (file : List ℕ) (n : ℤ) → Inductive file (λ c l. pos c.state.entity_count ≡ n) AnyStep
unfolding entered left
number_inductive file n =
    record {
      plain = λ c l p cells entities k keeps puts. (tt, k);
      writing = λ c l cells k keeps. (tt, k);
      lending = λ c l entities k. (tt, k);
      entering = λ c l f back k h. (tt, k);
      returning = λ c l a k h. (tt, k);
      leave_one = λ c l k h. (tt, k);
    }

pub number_kept : (s : Settings) (file : List ℕ) (n : ℤ) (cells saved entities : List ℕ) (c : Config) → load s file n cells saved entities ≡ accepted c → (calls : List Call) → AllReady file calls
    → Always file AnyStep (λ c' l. pos c'.state.entity_count ≡ n) c [] calls
number_kept s file n cells saved entities c accepts calls ready =
    let same_number : StateProperty = λ c' l. pos c'.state.entity_count ≡ n in
    always file same_number AnyStep (number_inductive file n) same_number (λ c' l k. k) c [] calls ready (load_starts s file n cells saved entities c accepts).entity_count_law

-- R-11: "settings given at load and held in the state"
settings_inductive : (s : Settings) (file : List ℕ) → Inductive file (λ c l. c.state.settings ≡ s) AnyStep
unfolding entered left
settings_inductive s file =
    record {
      plain = λ c l p cells entities k keeps puts. (tt, k);
      writing = λ c l cells k keeps. (tt, k);
      lending = λ c l entities k. (tt, k);
      entering = λ c l f back k h. (tt, k);
      returning = λ c l a k h. (tt, k);
      leave_one = λ c l k h. (tt, k);
    }

pub settings_held : (s : Settings) (file : List ℕ) (n : ℤ) (cells saved entities : List ℕ) (c : Config) → load s file n cells saved entities ≡ accepted c → (calls : List Call) → AllReady file calls
    → Always file AnyStep (λ c' l. c'.state.settings ≡ s) c [] calls
settings_held s file n cells saved entities c accepts calls ready =
    let held : StateProperty = λ c' l. c'.state.settings ≡ s in
    always file held AnyStep (settings_inductive s file) held (λ c' l k. k) c [] calls ready (load_starts s file n cells saved entities c accepts).settings

-- so 13 refuses no call of a list in which every lending is of entity cells enough, nor of one without lendings
pub never_13_lent : (s : Settings) (file : List ℕ) (n : ℤ) (cells saved entities : List ℕ) (c : Config) → load s file n cells saved entities ≡ accepted c
    → (calls : List Call) → AllReady file calls → LendEnough (room_in file c) calls
    → Always file AnyStep (λ c' l. sound (program_of file) c' ≡ true) c [] calls
never_13_lent s file n cells saved entities c accepts calls ready lent =
    while_enough file AnyStep (AsLoaded file) (λ c' l. sound (program_of file) c' ≡ true) (λ c' l k enough. k.passes enough)
    c [] calls ready (load_suffices s file n cells saved entities c accepts) lent (never_13 s file n cells saved entities c accepts calls ready)
