-- DEMAND 3, proved, by an inductive invariant, `StackMatches`: the depths match the log, and each note's frame and saved cells are in their places.
use Rattle.std.specs.Prelude.{ℕ, ◌+◌, ◌-◌, ◌≤◌, ◌<◌, ◌≡◌, List, [], ◌∷◌, not, ℤ, length, drop, get_or, leb}
use Rattle.std.proofs.Math.Path.{refl, ap}
use Rattle.std.proofs.Common.{◌∙◌, subst, ltb-true, leb-true, length-append, get_or-set_same}
use native.Mathlib.Omega.{arith}
use Rattle.std.proofs.Math.ListN.{length-set, length-drop}
use Rattle.std.proofs.lemmas.List.{length-replicate}
use Rattle.std.proofs.Math.Seq.{length-paste, get_or-set_other}
use Rattle.definition.specs.declared.FunctionDef.{FunctionDef}
use Rattle.definition.specs.declared.StackFrame.{StackFrame}
use Rattle.definition.specs.declared.Settings.{Settings}
use Rattle.definition.specs.File.{least_cells, saved_store, greatest_depth, negative, contents_of, file_of}
use Rattle.definition.specs.Machine.{Config, count_of, zero_frame, copied, successive, arguments_of, with_cells, with_entities, advanced}
use Rattle.definition.specs.Machine.{entry_conditions, entered, leave_conditions, left}
use Rattle.definition.specs.Load.{cell_conditions, entities_given, loaded, load, program_with, program_of}
use Rattle.definition.specs.Log.{Note, Log, function_in, local_cells, Kind, entry, leaving, other}
use Rattle.definition.specs.Returns.{locals_noted, DepthsMatch, Restored, StepCorrect, Demand3}
use Rattle.definition.specs.CheckLaws.{All, WhenAccepted}
use Rattle.definition.proofs.CheckLaws.{and_right, guarded}
use Rattle.definition.specs.Parts.{part, Present}
use Rattle.definition.proofs.Parts.{part_below, part_pasted, present_true, present_more, present_source, length_pasted, part_restored, length_copied}
use Rattle.definition.specs.Invariant.{Preserves, Inductive}
use Rattle.definition.proofs.Invariant.{always}
use Rattle.definition.proofs.RecordLaws.{length_globals}
use Rattle.definition.proofs.LoadLaws.{settings_fit_law, load_rows_law}

-- ---- the invariant

-- the frame that belongs to a note
abbrev frame_of : Note → StackFrame
frame_of n = record { instr_id = n.position; func_id = n.current }

abbrev locals_in : List ℕ → ℕ → ℕ
locals_in file f = (function_in file f).locals

-- the frames and the saved store hold what the notes say, `current` being the current function
abbrev FramesMatch : List ℕ → ℕ → List StackFrame → List ℕ → Log → Type 0
FramesMatch file current frames store [] = Unit {0}
FramesMatch file current frames store (n ∷ l) =
    (n.entered ≡ current)
    × (get_or frames (length l) zero_frame ≡ frame_of n)
    × (part store (locals_noted file l) (locals_in file n.entered) ≡ n.cells)
    × FramesMatch file n.current frames store l

record StackMatches (s : Settings) (file : List ℕ) (c : Config) (l : Log) : Type 0 where
  depths : DepthsMatch s file c l
  held : c.state.settings ≡ s
  depth_bound : s.depth ≤ greatest_depth
  saved_bound : s.saved ≤ saved_store
  room : greatest_depth ≤ length c.state.frames
  store : saved_store ≤ length c.saved
  enough : count_of c ≤ length c.cells
  frames : FramesMatch file c.state.function c.state.frames c.saved l

-- frames and saved cells that are the same below, hold the same
frames_same :
    (file : List ℕ) (current : ℕ) (frames frames' : List StackFrame) (store store' : List ℕ) (l : Log)
    → ((i : ℕ) → i < length l → get_or frames' i zero_frame ≡ get_or frames i zero_frame)
    → ((a n : ℕ) → a + n ≤ locals_noted file l → part store' a n ≡ part store a n)
    → FramesMatch file current frames store l → FramesMatch file current frames' store' l
unfolding locals_noted
frames_same file current frames frames' store store' [] hf hs k = tt
frames_same file current frames frames' store store' (n ∷ l) hf hs (own, frame, cells, rest) = (
  own,
  hf (length l) (omega arith) ∙ frame,
  hs (locals_noted file l) (locals_in file n.entered) (omega arith) ∙ cells,
  frames_same file n.current frames frames' store store' l
      (λ i h. hf i (omega arith))
      (λ a m h. hs a m (omega arith))
      rest,
)

-- ---- entry

abbrev note : List ℕ → ℕ → ℤ → Config → Note
note file f back c = record { entered = f; position = back; current = c.state.function; cells = local_cells file f c.cells }

module _ (s : Settings) (file : List ℕ) (f : ℕ) (back : ℤ) (c : Config) (l : Log) (k : StackMatches s file c l)
    (shallow : c.state.depth < s.depth)
    (fits : c.state.saved + locals_in file f ≤ s.saved)
    (there : Present (function_in file f).start (locals_in file f) (length c.cells)) where
  source : locals_in file f ≤ length (drop (function_in file f).start c.cells)
  source = present_source c.cells (function_in file f).start (locals_in file f) there

  abbrev after_entry_law : Config
  after_entry_law = entered (program_of file) f back c

  entered_matches : StackMatches s file after_entry_law (note file f back c ∷ l)
  unfolding entered program_with locals_noted
  entered_matches =
      record {
        depths =
            record {
              depth_is = omega (arith, k.depths.depth_is);
              depth_most = omega arith;
              saved_is = omega (arith, k.depths.saved_is);
              saved_most = fits;
            };
        held = k.held;
        depth_bound = k.depth_bound;
        saved_bound = k.saved_bound;
        room = omega (arith, k.room, length-set c.state.frames c.state.depth (frame_of (note file f back c)));
        store =
            omega (
              arith,
              k.store,
              length-paste c.saved c.state.saved (drop (function_in file f).start c.cells) (locals_in file f) (omega (arith, k.store, k.saved_bound)) source,
            );
        enough = omega (arith, k.enough, length_copied (arguments_of (function_in file f)) c.cells);
        frames = (
          refl,
          rw (← k.depths.depth_is)
              (get_or-set_same c.state.frames c.state.depth (frame_of (note file f back c)) zero_frame (omega (arith, k.room, k.depth_bound))),
          rw (← k.depths.saved_is)
              (part_pasted c.saved c.state.saved (drop (function_in file f).start c.cells) (locals_in file f) (omega (arith, k.store, k.saved_bound)) source),
          frames_same file c.state.function c.state.frames _ c.saved _ l
              (λ i h.
              get_or-set_other c.state.frames c.state.depth i (frame_of (note file f back c)) zero_frame (omega (arith, k.depths.depth_is)))
              (λ a n h.
              part_below c.saved c.state.saved (drop (function_in file f).start c.cells) (locals_in file f) a n (omega (arith, k.store, k.saved_bound))
              (omega (arith, k.depths.saved_is)))
              k.frames,
        );
      }

-- ---- leaving

module _ (s : Settings) (file : List ℕ) (c : Config) (n : Note) (l : Log) (k : StackMatches s file c (n ∷ l))
    (there : Present (function_in file c.state.function).start (locals_in file c.state.function) (length c.cells)) where
  abbrev d : FunctionDef
  d = function_in file c.state.function

  own_count : locals_in file n.entered ≡ d.locals
  own_count = ap (locals_in file) k.frames.0

  one_less : c.state.depth - 1 ≡ length l
  one_less = omega (arith, k.depths.depth_is)

  below : c.state.saved - d.locals ≡ locals_noted file l
  unfolding locals_noted
  below = omega (arith, k.depths.saved_is, own_count)

  has_saved : d.locals ≤ length (drop (c.state.saved - d.locals) c.saved)
  unfolding locals_noted
  has_saved =
      omega (arith, k.depths.saved_is, own_count, k.depths.saved_most, k.store, k.saved_bound, length-drop (c.state.saved - d.locals) c.saved)

  frame_is : get_or c.state.frames (c.state.depth - 1) zero_frame ≡ frame_of n
  frame_is = rw one_less k.frames.1

  left_restores : Restored file c.state.function n (left (program_of file) c)
  unfolding left program_with
  left_restores =
      record {
        same_function = k.frames.0;
        position = ap (λ (x : StackFrame). x.instr_id) frame_is;
        current = ap (λ (x : StackFrame). x.func_id) frame_is;
        cells =
            part_restored c.cells d.start (drop (c.state.saved - d.locals) c.saved) d.locals there has_saved
            ∙ rw (below, ← own_count) k.frames.2;
      }

  left_matches : StackMatches s file (left (program_of file) c) l
  unfolding left program_with locals_noted
  left_matches =
      record {
        depths =
            record {
              depth_is = one_less;
              depth_most = omega (arith, k.depths.depth_most);
              saved_is = below;
              saved_most = omega (arith, k.depths.saved_most);
            };
        held = k.held;
        depth_bound = k.depth_bound;
        saved_bound = k.saved_bound;
        room = omega (arith, k.room, length-set c.state.frames (c.state.depth - 1) zero_frame);
        store = k.store;
        enough =
            omega (
              arith,
              k.enough,
              length_pasted c.cells d.start (drop (c.state.saved - d.locals) c.saved) d.locals there has_saved,
            );
        frames =
            rw frame_is
            (frames_same file n.current c.state.frames _ c.saved c.saved l
            (λ i h. get_or-set_other c.state.frames (c.state.depth - 1) i zero_frame zero_frame (omega (arith, one_less)))
            (λ a m h. refl)
            k.frames.3);
      }

-- ---- what changes only the position, the cells and the entity cells preserves it

advanced_matches : (s : Settings) (file : List ℕ) (c : Config) (l : Log) (p : ℤ) (cells entities : List ℕ) → length cells ≡ length c.cells → StackMatches s file c l
    → StackMatches s file (advanced c p cells entities) l
advanced_matches s file c l p cells entities e k =
    record {
      depths =
          record {
            depth_is = k.depths.depth_is;
            depth_most = k.depths.depth_most;
            saved_is = k.depths.saved_is;
            saved_most = k.depths.saved_most;
          };
      held = k.held;
      depth_bound = k.depth_bound;
      saved_bound = k.saved_bound;
      room = k.room;
      store = k.store;
      enough = omega (arith, e, k.enough);
      frames = k.frames;
    }

-- ---- the small steps

abbrev Preserved : Settings → List ℕ → Kind → Config → Log → Config → Type 0
Preserved s file κ c l c' = Preserves file (StackMatches s file) (StepCorrect s file) κ c l c'

other_preserves : (s : Settings) (file : List ℕ) (c : Config) (l : Log) (c' : Config) → StackMatches s file c' l → Preserved s file other c l c'
other_preserves s file c l c' k = (record { restores = tt; depths = k.depths }, k)

enter_preserves : (s : Settings) (file : List ℕ) (c : Config) (l : Log) (f : ℕ) (back : ℤ) → StackMatches s file c l → All (entry_conditions (program_of file) f c)
    → Preserved s file (entry f back) c l (entered (program_of file) f back c)
unfolding entry_conditions program_with
enter_preserves s file c l f back k h =
    let d = function_in file f in
    let k' =
    entered_matches s file f back c l k
    (subst (λ (t : Settings). c.state.depth < t.depth) k.held (ltb-true c.state.depth c.state.settings.depth h.1.0))
    (subst (λ (t : Settings). c.state.saved + d.locals ≤ t.saved) k.held
    (leb-true (c.state.saved + d.locals) c.state.settings.saved
    (and_right (not (negative d.locals)) (leb (c.state.saved + d.locals) c.state.settings.saved) h.1.1.0)))
    (present_more d.start d.locals (count_of c) (length c.cells) k.enough (present_true d.start d.locals (count_of c) h.1.1.1.0))
    in
    (record { restores = tt; depths = k'.depths }, k')

-- from what the statement before it left of the cells: a Return copies first
leave_preserves : (s : Settings) (file : List ℕ) (c : Config) (cells : List ℕ) (l : Log) → length cells ≡ length c.cells → StackMatches s file c l → All (leave_conditions (program_of file) c)
    → Preserved s file leaving c l (left (program_of file) (with_cells c cells))
unfolding leave_conditions program_with
leave_preserves s file c cells [] e k h = absurd (omega (arith, ltb-true 0 c.state.depth h.0, k.depths.depth_is))
leave_preserves s file c cells (n ∷ l) e k h =
    let d = function_in file c.state.function in
    let kc : StackMatches s file (with_cells c cells) (n ∷ l) = advanced_matches s file c (n ∷ l) c.state.pc cells c.entities e k in
    let there : Present d.start d.locals (length cells) =
    present_more d.start d.locals (count_of c) (length cells) (omega (arith, k.enough, e))
    (present_true d.start d.locals (count_of c) h.1.1.0)
    in
    let k' = left_matches s file (with_cells c cells) n l kc there in
    (record { restores = left_restores s file (with_cells c cells) n l kc there; depths = k'.depths }, k')

matches_inductive : (s : Settings) (file : List ℕ) → Inductive file (StackMatches s file) (StepCorrect s file)
matches_inductive s file =
    record {
      plain = λ c l p cells entities k keeps _.
          other_preserves s file c l (advanced c p cells entities) (advanced_matches s file c l p cells entities keeps.same_length k);
      writing = λ c l cells k keeps.
          other_preserves s file c l (with_cells c cells) (advanced_matches s file c l c.state.pc cells c.entities keeps.same_length k);
      lending = λ c l entities k.
          other_preserves s file c l (with_entities c entities) (advanced_matches s file c l c.state.pc c.cells entities refl k);
      entering = enter_preserves s file;
      returning = λ c l a k h.
          leave_preserves s file c (copied (successive 3 a 1) c.cells) l (length_copied (successive 3 a 1) c.cells) k h.1;
      leave_one = λ c l k h. leave_preserves s file c c.cells l refl k h;
    }

-- ---- the load

loaded_matches : (s : Settings) (file : List ℕ) (n : ℤ) (cells saved entities : List ℕ) → WhenAccepted (λ (c : Config). StackMatches s file c []) (load s file n cells saved entities)
unfolding load loaded locals_noted cell_conditions
loaded_matches s file n cells saved entities =
    guarded (λ (c : Config). StackMatches s file c []) _ _ λ h.
    let r = file_of file in
    let rows = load_rows_law least_cells s.check_number file (entities_given n) (length cells) (length saved) (length entities) h.1 in
    let range = settings_fit_law s h.0 in
    let twelve = rows.cells.1.1.0 in
    record {
      depths = record { depth_is = refl; depth_most = omega arith; saved_is = refl; saved_most = omega arith };
      held = refl;
      depth_bound = range.depth_most;
      saved_bound = range.saved_most;
      room = omega (arith, length-replicate greatest_depth zero_frame);
      store = leb-true saved_store (length saved) (and_right (leb r.globals.count (length cells)) (leb saved_store (length saved)) twelve);
      enough = omega (arith, length-append (contents_of file).globals (drop r.globals.count cells), length_globals file);
      frames = tt;
    }

pub demand3 : Demand3
unfolding Demand3
demand3 s file n cells saved entities c accepts calls ready =
    always file (StackMatches s file) (StepCorrect s file) (matches_inductive s file) (DepthsMatch s file) (λ c' l k. k.depths) c [] calls ready
    (subst (WhenAccepted (λ (c' : Config). StackMatches s file c' [])) accepts (loaded_matches s file n cells saved entities))
