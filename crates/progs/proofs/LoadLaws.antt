-- What a load answers, and the starting cells.
use Rattle.std.proofs.Common.{◌≡◌, ℕ, ◌/◌, List, ◌++◌, ℤ, true, false, Ok, length, drop, sym, ◌∙◌, ap}
use Rattle.definition.specs.declared.FileRecord.{FileRecord}
use Rattle.definition.specs.declared.Settings.{Settings}
use Rattle.definition.specs.declared.refusal.Refusal.{Refusal}
use Rattle.definition.specs.Checks.{judge, refused, guard}
use Rattle.definition.specs.Refusals.{number}
use Rattle.definition.specs.File.{file_of, least_cells, u32_at, contents_at, settings_fit}
use Rattle.definition.specs.Machine.{start_state}
use Rattle.definition.specs.Load.{file_conditions, entities_given, loaded, load}
use Rattle.definition.specs.Answers.{load_outcome}
use Rattle.definition.proofs.RecordLaws.{length_records}
use Rattle.functions.specs.Laws.{AllFit}
use Rattle.functions.specs.Parts.{part_of, cells_in}
use Rattle.functions.specs.PartLaws.{part_globals}
use Rattle.loader.proofs.Loads.{loads}
use Rattle.progs.specs.declared.ExecutionContext.{ExecutionContext}
use Rattle.progs.specs.Contexts.{state_of, loading_of}
use Rattle.progs.proofs.OutcomeLaws.{guard_number, guard_clear}

-- the starting cells, by the part that has them
module _ (file : List ℕ) (r : FileRecord) (fit : AllFit (length file) r) (part : List ℕ) (e : part ≡ part_of 4 r.globals file) where
  starting : cells_in part ≡ (contents_at r file).globals
  starting = rw e (part_globals r file fit)

  pub starting_count : length part / 4 ≡ r.globals.count
  unfolding contents_at
  starting_count = sym (length_records (u32_at part) 4 (length part / 4) 0) ∙ ap (λ (l : List ℕ). length l) starting ∙ length_records (u32_at file) 4 r.globals.count r.globals.offset

  pub filled : (cells cells' : List ℕ) → cells' ≡ cells_in part ++ drop (length part / 4) cells → cells' ≡ (contents_at r file).globals ++ drop r.globals.count cells
  filled cells cells' h = h ∙ rw (starting, starting_count)

module _ (t : Settings) (file : List ℕ) (given : ℤ) (cells saved entities : List ℕ) where
  -- the conditions of the file
  abbrev number_of : ℕ
  number_of = judge (file_conditions least_cells t.check_number file (entities_given given) (length cells) (length saved) (length entities))

  pub load_36 : settings_fit t ≡ false → load t file given cells saved entities ≡ refused 36
  unfolding load guard judge
  load_36 h = rw h

  -- after 36 the file decides
  after_36 : settings_fit t ≡ true
      → load t file given cells saved entities
      ≡ guard (file_conditions least_cells t.check_number file (entities_given given) (length cells) (length saved) (length entities)) (loaded t file (entities_given given) cells saved entities)
  unfolding load guard judge
  after_36 fit = rw fit

  pub load_refused : settings_fit t ≡ true → (r : Refusal) → number r ≡ number_of → load t file given cells saved entities ≡ refused (number r)
  load_refused fit r e = after_36 fit ∙ guard_number _ _ r e

  pub load_accepted : settings_fit t ≡ true → (n : ℕ) → n ≡ entities_given given
      → 0 ≡ judge (file_conditions least_cells t.check_number file n (length cells) (length saved) (length entities))
      → (r : FileRecord) → r ≡ file_of file
      → (y : ExecutionContext) → state_of y ≡ start_state t r n
      → (part : List ℕ) → part ≡ part_of 4 r.globals file
      → (cells' : List ℕ) → cells' ≡ cells_in part ++ drop (length part / 4) cells
      → loading_of (Ok y) cells' saved entities ≡ load_outcome cells saved entities (load t file given cells saved entities)
  unfolding loaded
  load_accepted fit n given_is e r is y starts part part_is cells' fills =
      let known = loads _ _ file n _ _ _ r (sym e) is in
      let cells_are = filled file r known.lumps part part_is cells cells' fills in
      let clear = rw given_is at e in
      rw (after_36 fit, guard_clear _ (loaded t file (entities_given given) cells saved entities) clear, starts, cells_are, is, given_is)
