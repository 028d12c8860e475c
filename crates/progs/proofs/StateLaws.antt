-- Laws of check 13: what is left of the entered functions, and what it is to pass.
use Rattle.std.proofs.Common.{◌≡◌, ℕ, zero, suc, ◌+◌, ◌-◌, ◌*◌, ◌≤◌, ◌<◌, List, ◌∷◌, Option, Some, None, reverse, take, Bor, Iter, Bool, true, false, ◌&&◌, length, get_or, leb, eqb, refl, sym, ◌∙◌, ap, arith, add_assoc, add-zero, zero-add, lt-ltb, le-ltb, le-leb, leb-true}
use borrow.Author.Tests.{lt-leb}
use Rattle.std.specs.declared.iter.Rev.{Rev}
use Rattle.std.specs.Iterator.{Yields}
use Rattle.std.specs.Iterator.Adapters.{rev_source, rev_steps}
use Rattle.std.specs.Slice.Iter.{iter_rest, iter_steps_back}
use Rattle.std.proofs.lemmas.List.{length-reverse, length-take-le, get_or-reverse, get_or-take, get_or_default}
use Rattle.std.proofs.lemmas.Iterator.{YieldsList}
use Rattle.std.proofs.lemmas.Iterator.Adapters.{YieldsList-from_rev_slice}
use Rattle.std.proofs.lemmas.Iterator.Consumers.{YieldsList-turn, YieldsList-end}
use Rattle.definition.specs.declared.FileRecord.{FileRecord}
use Rattle.definition.specs.declared.StackFrame.{StackFrame}
use Rattle.definition.specs.declared.FunctionDef.{FunctionDef}
use Rattle.definition.specs.declared.Settings.{Settings}
use Rattle.definition.specs.File.{least_cells, settings_fit}
use Rattle.definition.specs.Machine.{Program, function_of, entities_fit, zero_frame}
use Rattle.definition.specs.Load.{program_with, program_of, recorded_in}
use Rattle.definition.specs.Operations.{frame_functions, entered_at, entered_functions, all_present, locals_of, sound}
use Rattle.definition.proofs.CheckLaws.{and_left, and_right}
use Rattle.definition.proofs.LoadLaws.{settings_fit_law}
use Rattle.functions.specs.Laws.{recorded, entities_room}
use Rattle.progs.specs.declared.ExecutionContext.{ExecutionContext}
use Rattle.progs.specs.Contexts.{state_of, config, left_context, Loaded, Within, Lent, Kept}

-- ---- the entered functions that are left, when the local counts of the others are summed

unfoldable pub adds_up : Program → ℕ → ℕ → List ℕ → Bool
adds_up P saved sum fs = all_present P fs && eqb saved (sum + locals_of P fs)

-- the function of frame k is the next below
next_below : (k : ℕ) (frames : List StackFrame) → entered_at k (get_or frames k zero_frame).func_id frames ≡ frame_functions k frames
unfolding frame_functions
next_below zero frames = refl
next_below (suc k) frames = refl

module _ (P : Program) (saved sum k f : ℕ) (frames : List StackFrame) (more : 0 < k) where
  entered_on : entered_at k f frames ≡ f ∷ entered_at (k - 1) (get_or frames (k - 1) zero_frame).func_id frames
  entered_on =
      let e : k ≡ suc (k - 1) = omega arith in
      ap (λ (n : ℕ). entered_at n f frames) e ∙ ap (λ (fs : List ℕ). f ∷ fs) (sym (next_below (k - 1) frames))

  pub add_absent : length P.functions ≤ f → false ≡ adds_up P saved sum (entered_at k f frames)
  unfolding adds_up all_present
  add_absent h = rw (entered_on, le-ltb f (length P.functions) h)

  module _ (d : FunctionDef) (there : f < length P.functions) (e : d ≡ function_of P f) where
    pub add_negative : 2147483648 ≤ d.locals → false ≡ adds_up P saved sum (entered_at k f frames)
    unfolding adds_up all_present
    add_negative h = rw (entered_on, lt-ltb f (length P.functions) there, ← e, le-leb 2147483648 d.locals h)

    pub add_on : d.locals < 2147483648 → (n : ℕ) (y : StackFrame) → n ≡ k - 1 → y ≡ get_or frames (k - 1) zero_frame
        → adds_up P saved (sum + d.locals) (entered_at n y.func_id frames) ≡ adds_up P saved sum (entered_at k f frames)
    unfolding adds_up all_present locals_of
    add_on h n y c g =
        rw (
          c,
          g,
          entered_on,
          lt-ltb f (length P.functions) there,
          ← e,
          lt-leb 2147483648 d.locals h,
          ← add_assoc sum d.locals (locals_of P (entered_at (k - 1) (get_or frames (k - 1) zero_frame).func_id frames)),
        )

-- ---- the frames in use, from the uppermost down

module _ (n : ℕ) (frames : List StackFrame) (inside : n ≤ length frames) (s : Rev (Iter StackFrame)) (all : iter_rest (rev_source s) ≡ take n frames) where
  abbrev road : YieldsList (rev_steps iter_steps_back) (λ y. y.now) s (reverse (take n frames))
  road = YieldsList-from_rev_slice (take n frames) all

  front : length (take n frames) ≡ n
  front = length-take-le n frames inside

  module _ (before : List (Bor StackFrame)) (t : Rev (Iter StackFrame)) (yielded : Yields (rev_steps iter_steps_back) s before t) (r : Option (Bor StackFrame)) (u : Rev (Iter StackFrame)) (next : rev_steps iter_steps_back t r u) where
    -- the next frame is the uppermost of those that are left
    pub next_frame : (y : Bor StackFrame) → r ≡ Some y → (0 < n - length before) × (y.now ≡ get_or frames (n - length before - 1) zero_frame)
    next_frame y e =
        let k = YieldsList-turn road before t yielded r u y e next in
        let more : length before < n = omega (arith, length-reverse (take n frames), front, k.0) in
        let at : length (take n frames) - 1 - length before ≡ n - length before - 1 = omega (arith, front) in
        let here : n - length before - 1 < n = omega arith in
        let turned : y.now ≡ get_or (take n frames) (n - length before - 1) y.now = rw at at (k.1 ∙ get_or-reverse (take n frames) (length before) y.now (omega (arith, more, front))) in
        (omega (arith, more), turned ∙ get_or-take n frames _ y.now here ∙ get_or_default frames _ y.now zero_frame (omega (arith, here, inside)))

    pub no_frame : r ≡ None → n - length before ≤ 0
    no_frame e = let k = YieldsList-end road before t yielded r u e next in omega (arith, length-reverse (take n frames), front, k.1)

pub add_none : (P : Program) (saved sum k f : ℕ) (frames : List StackFrame) → k ≤ 0 → eqb saved sum ≡ adds_up P saved sum (entered_at k f frames)
unfolding adds_up all_present locals_of
add_none P saved sum k f frames h = let z : k ≡ 0 = omega arith in rw (z, add-zero sum)

pub add_start : (P : Program) (x : ExecutionContext)
    → adds_up P x.saved 0 (entered_at x.depth x.current_function x.frames)
    ≡ (all_present P (entered_functions (state_of x)) && eqb x.saved (locals_of P (entered_functions (state_of x))))
unfolding adds_up entered_functions
add_start P x = rw (zero-add (locals_of P (entered_at x.depth x.current_function x.frames)))

-- ---- the check

-- a file that a context records
pub loaded_of : (file : List ℕ) (r : FileRecord) (cells : ℕ) → recorded_in least_cells file r cells ≡ true → Loaded file r
loaded_of file r cells h = let k = recorded file r cells h in record { same = k.same; lumps = k.lumps }

pub size_most : (file : List ℕ) (r : FileRecord) (cells : ℕ) → recorded_in least_cells file r cells ≡ true → r.entityfields < 2147483648
size_most file r cells h = (recorded file r cells h).size.most

pub depth_most : (s : Settings) → settings_fit s ≡ true → s.depth ≤ 31
depth_most s h = (settings_fit_law s h).depth_most

module _ (file cells saved entities : List ℕ) (x : ExecutionContext) where
  abbrev check : Bool
  check = sound (program_of file) (config x cells saved entities)

  pub passed : check ≡ true → Within file x (length cells) (length saved) (length entities)
  unfolding sound program_with
  passed h =
      let r = recorded_in least_cells file x.file (length cells) in
      let s = leb 2048 (length saved) in
      let roomy = entities_fit x.entity_count x.file.entityfields (length entities) in
      let fit = settings_fit x.settings in
      let d = leb x.depth x.settings.depth in
      let p = all_present (program_of file) (entered_functions (state_of x)) in
      let l = leb x.saved x.settings.saved in
      let h5 = and_left (r && s && roomy && fit && d && p && l) (eqb x.saved (locals_of (program_of file) (entered_functions (state_of x)))) h in
      let h4 = and_left (r && s && roomy && fit && d) p (and_left (r && s && roomy && fit && d && p) l h5) in
      let h3 = and_left (r && s && roomy && fit) d h4 in
      let h2 = and_left (r && s && roomy) fit h3 in
      let range = settings_fit_law x.settings (and_right (r && s && roomy) fit h3) in
      let deep = leb-true x.depth x.settings.depth (and_right (r && s && roomy && fit) d h4) in
      let full = leb-true x.saved x.settings.saved (and_right (r && s && roomy && fit && d && p) l h5) in
      let k = recorded file x.file (length cells) (and_left r s (and_left (r && s) roomy h2)) in
      let e = entities_room x.entity_count x.file.entityfields (length entities) (and_right (r && s) roomy h2) in
      record {
        loaded = record { same = k.same; lumps = k.lumps };
        least = k.least;
        most = k.most;
        lent = k.lends;
        store = leb-true _ _ (and_right r s (and_left (r && s) roomy h2));
        range = range;
        depth = omega (arith, deep, range.depth_most);
        held = omega (arith, full, range.saved_most);
        size_least = k.size.least;
        size_most = k.size.most;
        number = e.number_most;
        fields = e.cells;
      }

-- whatever is lent, the entities' own cells are
pub own_within : (file : List ℕ) (cells saved entities : ℕ) (x : ExecutionContext) → Within file x cells saved entities
    → Within file x cells saved (x.entity_count * x.file.entityfields)
own_within file cells saved entities x h =
    record {
      loaded = h.loaded;
      least = h.least;
      most = h.most;
      lent = h.lent;
      store = h.store;
      range = h.range;
      depth = h.depth;
      held = h.held;
      size_least = h.size_least;
      size_most = h.size_most;
      number = h.number;
      fields = omega arith;
    }

pub own : (file cells saved entities : List ℕ) (x : ExecutionContext) → sound (program_of file) (config x cells saved entities) ≡ true → Lent file x cells saved
own file cells saved entities x h = own_within _ _ _ _ _ (passed file cells saved entities x h)

-- ---- what check 13 establishes is kept by every entry and leaving

module _ (file : List ℕ) (cells saved entities : ℕ) (x y : ExecutionContext) (h : Within file x cells saved entities) where
  pub moved_within : y.file ≡ x.file → y.settings ≡ x.settings → y.entity_count ≡ x.entity_count → y.depth ≤ 31 → y.saved ≤ 2048 → Within file y cells saved entities
  moved_within e v n d s =
      record {
        loaded = rw e h.loaded;
        least = rw e h.least;
        most = rw e h.most;
        lent = rw e h.lent;
        store = h.store;
        range = rw v h.range;
        depth = d;
        held = s;
        size_least = rw e h.size_least;
        size_most = rw e h.size_most;
        number = rw n h.number;
        fields = rw (n, e) h.fields;
      }

  pub kept_within : Kept x y → Within file y cells saved entities
  kept_within k = moved_within k.file k.settings k.entity_count k.depth k.saved

pub left_within : (file : List ℕ) (cells saved entities : ℕ) (x : ExecutionContext) (locals : ℕ) → Within file x cells saved entities → Within file (left_context x locals) cells saved entities
left_within file cells saved entities x locals h = moved_within file cells saved entities x _ h refl refl refl (omega (arith, h.depth)) (omega (arith, h.held))
