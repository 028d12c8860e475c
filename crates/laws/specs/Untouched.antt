-- What is never changed, whatever the list of calls: the number of cells, the cells from the file's count on, and saved cells outside the range that an
-- entry newly saves.
use Prim.Native.Nat.{ℕ, zero, suc, ◌+◌, ◌-◌, ◌≤◌, ◌<◌}
use Rattle.std.specs.Prelude.{◌≡◌, ◌⊎◌, Bool, false, not, ◌&&◌, ℤ, take, get_or, set, leb, ltb}
use Rattle.std.proofs.Math.Path.{refl, ap}
use Rattle.std.proofs.Common.{sym, ◌∙◌, subst, inl, inr, arith, length-set, length-append, drop_at, length-take-le, drop-set-lt, drop-drop}
use mathlib.Core.List.{List, [], ◌∷◌, ◌++◌, append_assoc}
use Rattle.std.proofs.Math.Bool.{true}
use borrow.Author.Tests.{ltb-true, leb-true, lt-ltb}
use Rattle.std.proofs.Math.ListN.{length, drop, length-drop}
use Rattle.std.proofs.Math.Seq.{paste, length-paste, drop-paste, take_at}
use Rattle.std.proofs.lemmas.List.{take-set-le}
use Rattle.definition.specs.declared.Settings.{Settings}
use Rattle.definition.specs.Checks.{Condition, Conditions, Checked, refused, accepted, guard}
use Rattle.definition.specs.File.{least_cells, most_cells, saved_store, negative, file_of, contents_of, length_fits, lumps_fit, cells_fit, entity_fits}
use Rattle.definition.specs.Machine.{Program, function_of, Config, count_of, present, Copy, copied, successive, arguments_of, copies_present, with_cells, with_entities, advanced}
use Rattle.definition.specs.Machine.{entry_conditions, entered, leave_conditions, left, return_conditions, returned}
use Rattle.definition.specs.Load.{header_conditions, record_conditions, cell_conditions, load_conditions, loaded, entities_given, load, program_of}
use Rattle.definition.specs.Calls.{Call}
use Rattle.definition.specs.Unpacked.{AllReady}
use Rattle.definition.specs.Log.{Log, Kind, entry, leaving, other}
use Rattle.definition.specs.Trace.{StepProperty, Always}
use Rattle.definition.specs.CheckLaws.{All, WhenAccepted}
use Rattle.definition.proofs.CheckLaws.{and_left, and_right, guarded}
use Rattle.definition.specs.Parts.{Present}
use Rattle.definition.proofs.Parts.{present_true, present_more, present_source, paste_none, length_pasted, drop_pasted, length_copied, drop_copied}
use Rattle.definition.proofs.RecordLaws.{length_globals}
use Rattle.definition.proofs.LoadLaws.{load_rows_law}
use Rattle.definition.specs.StatementLaws.{Keeps}
use Rattle.definition.proofs.StatementLaws.{keeps_all}
use Rattle.definition.specs.Invariant.{Preserves, Inductive}
use Rattle.definition.proofs.Invariant.{always}
use Rattle.laws.specs.Sound.{StackConsistent, saved_bound, Consistent, advanced_consistent, entered_consistent, left_consistent, returned_consistent, loaded_consistent}

-- the saved store after a small step: an entry writes the range that it saves, and nothing else writes
abbrev pub SavedBy : List ℕ → Kind → Config → Config → Type 0
SavedBy file (entry f back) c c' =
    (length c'.saved ≡ length c.saved)
    × (take c.state.saved c'.saved ≡ take c.state.saved c.saved)
    × (drop (c.state.saved + (function_of (program_of file) f).locals) c'.saved ≡ drop (c.state.saved + (function_of (program_of file) f).locals) c.saved)
SavedBy file leaving c c' = c'.saved ≡ c.saved
SavedBy file other c c' = c'.saved ≡ c.saved

pub record Touches (file : List ℕ) (κ : Kind) (c : Config) (l : Log) (c' : Config) : Type 0 where
  pub cells : Keeps (file_of file).globals.count c.cells c'.cells
  pub saved : SavedBy file κ c c'

keeps_more : (count : ℕ) (a b c : List ℕ) → Keeps count a b → Keeps count b c → Keeps count a c
keeps_more count a b c p q = record { same_length = q.same_length ∙ p.same_length; same_above = q.same_above ∙ p.same_above }

-- pasting changes nothing outside its range
pasted_only : (d : List ℕ) (at : ℕ) (s : List ℕ) (n : ℕ) → Present at n (length d) → n ≤ length s
    → (take at (paste d at s n) ≡ take at d) × (drop (at + n) (paste d at s n) ≡ drop (at + n) d)
unfolding Present
pasted_only d at s n (inl z) hs = (ap (take at) (paste_none d at s n z), ap (drop (at + n)) (paste_none d at s n z))
pasted_only d at s n (inr le) hs = (
  ap (take at) (append_assoc (take at d) (take n s) (drop (at + n) d)) ∙ take_at (take at d) _ at (length-take-le at d (omega arith)),
  drop-paste d at s n (omega arith) hs,
)

-- the inductive invariant: consistent, and the cells kept since `cells` were lent to the load
record SinceLoad (file cells : List ℕ) (c : Config) : Type 0 where
  consistent : Consistent file c
  kept : Keeps (file_of file).globals.count cells c.cells

module _ (file lent : List ℕ) where
  abbrev count : ℕ
  count = (file_of file).globals.count

  abbrev P : Program
  P = program_of file

  abbrev Preserved : Kind → Config → Log → Config → Type 0
  Preserved κ c l c' = Preserves file (λ c l. SinceLoad file lent c) (Touches file) κ c l c'

  count_is : (c : Config) → Consistent file c → count_of c ≡ count
  count_is c k = ap (λ (r : Rattle.definition.specs.declared.FileRecord.FileRecord). r.globals.count) k.recorded

  enough : (c : Config) → Consistent file c → count ≤ length c.cells
  enough c k = omega (arith, count_is c k, k.enough)

  -- a small step that keeps the cells and the saved store as its kind may preserves the invariant
  keeps_preserves : (κ : Kind) (c : Config) (l : Log) (c' : Config) → SinceLoad file lent c → Keeps count c.cells c'.cells → SavedBy file κ c c' → Consistent file c' → Preserved κ c l c'
  keeps_preserves κ c l c' k keeps saved consistent = (
    record { cells = keeps; saved = saved },
    record { consistent = consistent; kept = keeps_more count lent c.cells c'.cells k.kept keeps },
  )

  entered_touches : (c : Config) (l : Log) (f : ℕ) (back : ℤ) → SinceLoad file lent c → All (entry_conditions P f c) → Preserved (entry f back) c l (entered P f back c)
  unfolding entry_conditions entered
  entered_touches c l f back k h =
      let d = function_of P f in
      let s = c.state in
      let fits : s.saved + d.locals ≤ s.settings.saved = leb-true _ _ (and_right (not (negative d.locals)) (leb (s.saved + d.locals) s.settings.saved) h.1.1.0) in
      let room : s.saved + d.locals ≤ length c.saved = omega (arith, k.consistent.long, saved_bound P s k.consistent.stack) in
      let there : Present d.start d.locals (length c.cells) =
      present_more _ _ (count_of c) _ k.consistent.enough (present_true d.start d.locals (count_of c) h.1.1.1.0)
      in
      let from : List ℕ = drop d.start c.cells in
      let source : d.locals ≤ length from = present_source c.cells d.start d.locals there in
      let copies : copies_present count (arguments_of d) ≡ true = (rw (count_is c k.consistent) at h.1.1.1.1.1.0) in
      keeps_preserves (entry f back) c l (entered P f back c) k
      (record { same_length = length_copied (arguments_of d) c.cells; same_above = drop_copied (arguments_of d) c.cells count copies }) (
        length-paste c.saved s.saved from d.locals room source,
        ap (take s.saved) (append_assoc (take s.saved c.saved) (take d.locals from) (drop (s.saved + d.locals) c.saved))
            ∙ take_at (take s.saved c.saved) _ s.saved (length-take-le s.saved c.saved (omega arith)),
        drop-paste c.saved s.saved from d.locals (omega arith) source,
      )
      (entered_consistent file c f back k.consistent h)

  -- a leaving, from cells that a Return may have copied first
  left_keeps : (c : Config) (cells : List ℕ) → Consistent file c → length cells ≡ length c.cells → All (leave_conditions P c) → Keeps count cells (left P (with_cells c cells)).cells
  unfolding leave_conditions left
  left_keeps c cells k e h =
      let s = c.state in
      let d = function_of P s.function in
      let fewer : d.locals ≤ s.saved = leb-true d.locals s.saved h.1.0 in
      let there : Present d.start d.locals count = present_more _ _ (count_of c) _ (omega (arith, count_is c k)) (present_true d.start d.locals (count_of c) h.1.1.0) in
      let from : List ℕ = drop (s.saved - d.locals) c.saved in
      let source : d.locals ≤ length from = omega (arith, fewer, k.stack.saved_most, saved_bound P s k.stack, k.long, length-drop (s.saved - d.locals) c.saved) in
      let all : count ≤ length cells = omega (arith, enough c k, e) in
      record {
        same_length = length_pasted cells d.start from d.locals (present_more _ _ count _ all there) source;
        same_above = drop_pasted cells d.start from d.locals count there all source;
      }

  -- a leaving changes no cell outside the local range of the function left
  pub left_only : (c : Config) → Consistent file c → All (leave_conditions P c)
      → (take (function_of P c.state.function).start (left P c).cells ≡ take (function_of P c.state.function).start c.cells)
      × (drop ((function_of P c.state.function).start + (function_of P c.state.function).locals) (left P c).cells
      ≡ drop ((function_of P c.state.function).start + (function_of P c.state.function).locals) c.cells)
  unfolding leave_conditions left
  left_only c k h =
      let s = c.state in
      let d = function_of P s.function in
      let fewer : d.locals ≤ s.saved = leb-true d.locals s.saved h.1.0 in
      let from : List ℕ = drop (s.saved - d.locals) c.saved in
      pasted_only c.cells d.start from d.locals
      (present_more _ _ (count_of c) _ k.enough (present_true d.start d.locals (count_of c) h.1.1.0))
      (omega (arith, fewer, k.stack.saved_most, saved_bound P s k.stack, k.long, length-drop (s.saved - d.locals) c.saved))

  least : (c : Config) → Consistent file c → least_cells ≤ count
  least c k =
      let r = file_of file in
      let cells_fit_law : cells_fit least_cells r ≡ true =
      and_right (length_fits r && lumps_fit r) (cells_fit least_cells r) (and_left (length_fits r && lumps_fit r && cells_fit least_cells r) (entity_fits r) k.in_range)
      in
      leb-true least_cells count (and_left (leb least_cells count) (leb count most_cells) cells_fit_law)

  -- Return's three cells are copied below the count
  three : (a : ℕ) (c : Config) → Consistent file c → present a 3 (count_of c) ≡ true → copies_present count (successive 3 a 1) ≡ true
  unfolding present successive copies_present
  three a c k e =
      let low : least_cells ≤ count = least c k in
      let below : a + 3 ≤ count = omega (arith, count_is c k, leb-true (a + 3) (count_of c) e) in
      rw (
        lt-ltb a count (omega arith),
        lt-ltb 1 count (omega arith),
        lt-ltb (a + 1) count (omega arith),
        lt-ltb 2 count (omega arith),
        lt-ltb (a + 1 + 1) count (omega arith),
        lt-ltb 3 count (omega arith),
      )

  left_touches : (c : Config) (l : Log) → SinceLoad file lent c → All (leave_conditions P c) → Preserved leaving c l (left P c)
  unfolding left
  left_touches c l k h = keeps_preserves leaving c l (left P c) k (left_keeps c c.cells k.consistent refl h) refl (left_consistent file c k.consistent h)

  returned_touches : (c : Config) (l : Log) (a : ℕ) → SinceLoad file lent c → All (return_conditions P a c) → Preserved leaving c l (returned P a c)
  unfolding left
  returned_touches c l a k h =
      let cells = copied (successive 3 a 1) c.cells in
      let copying : Keeps count c.cells cells =
      record {
        same_length = length_copied (successive 3 a 1) c.cells;
        same_above = drop_copied (successive 3 a 1) c.cells count (three a c k.consistent h.0);
      }
      in
      keeps_preserves leaving c l (returned P a c) k
      (keeps_more count c.cells cells _ copying (left_keeps c cells k.consistent copying.same_length h.1))
      refl (returned_consistent file c a k.consistent h)

  touches_inductive : Inductive file (λ c l. SinceLoad file lent c) (Touches file)
  touches_inductive =
      record {
        plain = λ c l p cells entities k keeps puts.
            keeps_preserves other c l (advanced c p cells entities) k (subst (λ (n : ℕ). Keeps n c.cells cells) (length_globals file) keeps) refl
            (advanced_consistent file c p cells entities keeps.same_length k.consistent);
        writing = λ c l cells k keeps.
            keeps_preserves other c l (with_cells c cells) k (subst (λ (n : ℕ). Keeps n c.cells cells) (count_is c k.consistent) keeps) refl
            (advanced_consistent file c c.state.pc cells c.entities keeps.same_length k.consistent);
        lending = λ c l entities k.
            keeps_preserves other c l (with_entities c entities) k (keeps_all count c.cells) refl
            (advanced_consistent file c c.state.pc c.cells entities refl k.consistent);
        entering = entered_touches;
        returning = returned_touches;
        leave_one = left_touches;
      }

-- a Return copies to cells 1, 2 and 3 and to no other, and then leaves
pub record Returning (P : Program) (a : ℕ) (c : Config) : Type 0 where
  pub cells : List ℕ
  pub leaves : returned P a c ≡ left P (with_cells c cells)
  pub first : take 1 cells ≡ take 1 c.cells
  pub others : drop 4 cells ≡ drop 4 c.cells

pub returned_only : (P : Program) (a : ℕ) (c : Config) → Returning P a c
unfolding copied successive
returned_only P a c =
    let one : List ℕ = set c.cells 1 (get_or c.cells a 0) in
    let two : List ℕ = set one 2 (get_or one (a + 1) 0) in
    let third : ℕ = get_or two (a + 1 + 1) 0 in
    record {
      cells = copied (successive 3 a 1) c.cells;
      leaves = refl;
      first = take-set-le 1 two 3 third (omega arith) ∙ take-set-le 1 one 2 (get_or one (a + 1) 0) (omega arith) ∙ take-set-le 1 c.cells 1 (get_or c.cells a 0) (omega arith);
      others = drop-set-lt 4 two 3 third (omega arith) ∙ drop-set-lt 4 one 2 (get_or one (a + 1) 0) (omega arith) ∙ drop-set-lt 4 c.cells 1 (get_or c.cells a 0) (omega arith);
    }

-- a load fills the lent cells from 0 and leaves those past the file's count
loaded_keeps : (s : Settings) (file : List ℕ) (n : ℤ) (cells saved entities : List ℕ) → WhenAccepted (λ (c : Config). Keeps (file_of file).globals.count cells c.cells) (load s file n cells saved entities)
unfolding load loaded cell_conditions
loaded_keeps s file n cells saved entities =
    guarded (λ (c : Config). Keeps (file_of file).globals.count cells c.cells) _ _ λ h.
    let r = file_of file in
    let count = r.globals.count in
    let k = contents_of file in
    let rows = load_rows_law least_cells s.check_number file (entities_given n) (length cells) (length saved) (length entities) h.1 in
    let lent : count ≤ length cells = leb-true count (length cells) (and_left (leb count (length cells)) (leb saved_store (length saved)) rows.cells.1.1.0) in
    record {
      same_length = omega (arith, lent, length-append k.globals (drop count cells), length_globals file, length-drop count cells);
      same_above = drop_at k.globals (drop count cells) count (length_globals file);
    }

since_load : (file cells : List ℕ) (x : Checked Config) → WhenAccepted (Consistent file) x
    → WhenAccepted (λ (c : Config). Keeps (file_of file).globals.count cells c.cells) x → WhenAccepted (SinceLoad file cells) x
since_load file cells (refused n) s k = tt
since_load file cells (accepted c) s k = record { consistent = s; kept = k }

-- of the cells lent to the load: their number, and those from the file's count on, stay
pub untouched : (s : Settings) (file : List ℕ) (n : ℤ) (cells saved entities : List ℕ) (c : Config) → load s file n cells saved entities ≡ accepted c → (calls : List Call) → AllReady file calls
    → Always file (Touches file) (λ c' l. Keeps (file_of file).globals.count cells c'.cells) c [] calls
untouched s file n cells saved entities c accepts calls ready =
    always file (λ c' l. SinceLoad file cells c') (Touches file) (touches_inductive file cells) (λ c' l. Keeps (file_of file).globals.count cells c'.cells)
    (λ c' l k. k.kept)
    c [] calls ready
    (subst (WhenAccepted (SinceLoad file cells)) accepts (since_load file cells (load s file n cells saved entities) (loaded_consistent s file n cells saved entities) (loaded_keeps s file n cells saved entities)))
