-- What an accepted load leaves, field by field, and the sizes that it takes: those too that no row of the table can compute with. Limits are written
-- here, in Loadable and in Thirteen as the numbers of 01, not by the definition's names: a name with another value would be refused here.
use Rattle.std.specs.Prelude.{ℕ, ◌*◌, ◌≤◌, ◌<◌, ◌≡◌, refl, List, ◌++◌, true, false, ℤ, pos, negsuc, length, take, drop, replicate, leb}
use Rattle.std.proofs.Common.{subst, arith, leb-true, le-leb, take_at, drop_at}
use Rattle.std.proofs.lemmas.Bool.{lt-leb}
use Rattle.definition.specs.declared.Settings.{Settings}
use Rattle.definition.specs.Checks.{Condition, Conditions, judge, refused, accepted, guard}
use Rattle.definition.specs.File.{file_of, contents_of, length_fits, least_cells, cells_fit, settings_fit}
use Rattle.definition.specs.Machine.{Config, entities_fit}
use Rattle.definition.specs.Load.{header_conditions, record_conditions, cell_conditions, loaded, entities_given, load}
use Rattle.definition.specs.CheckLaws.{All, WhenAccepted}
use Rattle.definition.proofs.CheckLaws.{no_true, and_left, and_right, guarded}
use Rattle.definition.proofs.RecordLaws.{length_globals}
use Rattle.definition.specs.LoadLaws.{InRange}
use Rattle.definition.proofs.LoadLaws.{settings_fit_law, in_range_fits, load_rows_law}

-- "A load fills the lent cells from 0 and leaves those past the file's count. Position, function and depths start at 0. Frames start as zeros"; R-3: the
-- entities' "number given at load and kept in the state", and the entity cells "are untouched, by a load too"; R-11: the "settings given at load and held in
-- the state"
pub record Started (s : Settings) (file : List ℕ) (n : ℤ) (cells saved entities : List ℕ) (c : Config) : Type 0 where
  pub recorded : c.state.file ≡ file_of file
  pub settings : c.state.settings ≡ s
  pub position : c.state.pc ≡ pos 0
  pub function : c.state.function ≡ 0
  pub depth : c.state.depth ≡ 0
  pub saved_count : c.state.saved ≡ 0
  pub frames : c.state.frames ≡ replicate 31 (record { instr_id = pos 0; func_id = 0 })
  pub filled : take (file_of file).globals.count c.cells ≡ (contents_of file).globals
  pub past : drop (file_of file).globals.count c.cells ≡ drop (file_of file).globals.count cells
  pub store : c.saved ≡ saved
  pub entity_count_law : pos c.state.entity_count ≡ n
  pub entity_cells : c.entities ≡ entities

-- a negative number of entities is not accepted
given : (n : ℤ) → entities_given n ≤ 600 → pos (entities_given n) ≡ n
given (pos i) h = refl
given (negsuc i) h = absurd (omega arith)

when_accepted_starts : (s : Settings) (file : List ℕ) (n : ℤ) (cells saved entities : List ℕ) → WhenAccepted (Started s file n cells saved entities) (load s file n cells saved entities)
unfolding load loaded entities_fit
when_accepted_starts s file n cells saved entities =
    guarded (Started s file n cells saved entities) _ _ λ h.
    let count = (file_of file).globals.count in
    let rows = load_rows_law least_cells s.check_number file (entities_given n) (length cells) (length saved) (length entities) h.1 in
    record {
      recorded = refl;
      settings = refl;
      position = refl;
      function = refl;
      depth = refl;
      saved_count = refl;
      frames = refl;
      filled = take_at (contents_of file).globals (drop count cells) count (length_globals file);
      past = drop_at (contents_of file).globals (drop count cells) count (length_globals file);
      store = refl;
      entity_count_law = given n (leb-true _ _ (and_left (leb (entities_given n) 600) _ rows.fields.0));
      entity_cells = refl;
    }

pub load_starts : (s : Settings) (file : List ℕ) (n : ℤ) (cells saved entities : List ℕ) (c : Config) → load s file n cells saved entities ≡ accepted c → Started s file n cells saved entities c
load_starts s file n cells saved entities c accepts = subst (WhenAccepted (Started s file n cells saved entities)) accepts (when_accepted_starts s file n cells saved entities)

-- ---- sizes

-- R-11: "Settings out of range are refused 36, before the file is looked at"
pub out_of_range : (s : Settings) (file : List ℕ) (n : ℤ) (cells saved entities : List ℕ) → (InRange s → ⊥) → load s file n cells saved entities ≡ refused 36
unfolding load guard judge
out_of_range s file n cells saved entities h = rw (no_true (settings_fit s) (λ fits. h (settings_fit_law s fits)))

-- "1: length under 60 or over 1,048,576"
pub too_short : (s : Settings) (file : List ℕ) (n : ℤ) (cells saved entities : List ℕ) → InRange s → length file < 60 → load s file n cells saved entities ≡ refused 1
unfolding load guard judge header_conditions file_of
too_short s file n cells saved entities range h = rw (in_range_fits s range, lt-leb 60 (length file) h)

pub too_long : (s : Settings) (file : List ℕ) (n : ℤ) (cells saved entities : List ℕ) → InRange s → 1048576 < length file → load s file n cells saved entities ≡ refused 1
unfolding load guard judge header_conditions file_of
too_long s file n cells saved entities range h = rw (in_range_fits s range, le-leb 60 (length file) (omega arith), lt-leb (length file) 1048576 h)

-- and no other length is refused 1
pub length_fits_law : (file : List ℕ) → 60 ≤ length file → length file ≤ 1048576 → length_fits (file_of file) ≡ true
unfolding file_of
length_fits_law file low high = rw (le-leb 60 (length file) low, le-leb (length file) 1048576 high)

-- "10: under 36 or over 32,768", and R-7: "Files of 36 to 63 cells are refused 10 from now on"
pub cells_fit_law : (file : List ℕ) → 64 ≤ (file_of file).globals.count → (file_of file).globals.count ≤ 32768 → cells_fit least_cells (file_of file) ≡ true
cells_fit_law file low high = rw (le-leb 64 (file_of file).globals.count low, le-leb (file_of file).globals.count 32768 high)

-- R-3: "More than 600 entities .. are refused 13", however many entity cells are lent
pub too_many_entities : (n size lent : ℕ) → 600 < n → entities_fit n size lent ≡ false
unfolding entities_fit
too_many_entities n size lent h = rw (lt-leb n 600 h)

-- the sizes of what an accepted load was given
pub record Sizes (s : Settings) (file : List ℕ) (n : ℤ) (cells saved entities : List ℕ) : Type 0 where
  pub settings : InRange s
  pub length_least : 60 ≤ length file
  pub length_most : length file ≤ 1048576
  pub cells_least : 64 ≤ (file_of file).globals.count
  pub cells_most : (file_of file).globals.count ≤ 32768
  pub entity_least : 105 ≤ (file_of file).entityfields
  pub lent : (file_of file).globals.count ≤ length cells
  pub store : 2048 ≤ length saved
  pub entities_most : entities_given n ≤ 600
  pub entities_lent : entities_given n * (file_of file).entityfields ≤ length entities

when_accepted_sizes : (s : Settings) (file : List ℕ) (n : ℤ) (cells saved entities : List ℕ) → WhenAccepted (λ (c : Config). Sizes s file n cells saved entities) (load s file n cells saved entities)
unfolding load header_conditions cell_conditions entities_fit file_of
when_accepted_sizes s file n cells saved entities =
    guarded (λ (c : Config). Sizes s file n cells saved entities) _ _ λ h.
    let r = file_of file in
    let count = r.globals.count in
    let rows = load_rows_law least_cells s.check_number file (entities_given n) (length cells) (length saved) (length entities) h.1 in
    record {
      settings = settings_fit_law s h.0;
      length_least = leb-true 60 (length file) (and_left (leb 60 (length file)) (leb (length file) 1048576) rows.header.0);
      length_most = leb-true (length file) 1048576 (and_right (leb 60 (length file)) (leb (length file) 1048576) rows.header.0);
      cells_least = leb-true 64 count (and_left (leb 64 count) (leb count 32768) rows.cells.0);
      cells_most = leb-true count 32768 (and_right (leb 64 count) (leb count 32768) rows.cells.0);
      entity_least = leb-true 105 r.entityfields (and_left (leb 105 r.entityfields) _ rows.cells.1.0);
      lent = leb-true count (length cells) (and_left (leb count (length cells)) (leb 2048 (length saved)) rows.cells.1.1.0);
      store = leb-true 2048 (length saved) (and_right (leb count (length cells)) (leb 2048 (length saved)) rows.cells.1.1.0);
      entities_most = leb-true _ _ (and_left (leb (entities_given n) 600) (leb (entities_given n * r.entityfields) (length entities)) rows.fields.0);
      entities_lent = leb-true _ _ (and_right (leb (entities_given n) 600) (leb (entities_given n * r.entityfields) (length entities)) rows.fields.0);
    }

pub load_sizes : (s : Settings) (file : List ℕ) (n : ℤ) (cells saved entities : List ℕ) (c : Config) → load s file n cells saved entities ≡ accepted c → Sizes s file n cells saved entities
load_sizes s file n cells saved entities c accepts = subst (WhenAccepted (λ (c : Config). Sizes s file n cells saved entities)) accepts (when_accepted_sizes s file n cells saved entities)
