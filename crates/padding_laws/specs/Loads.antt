-- THE LOAD OF A PADDED FILE, document 02's R-7: it is accepted, beside what 12 and 13 ask, and starts from the old file's cells with zeros behind them.
use Prim.Native.Nat.{ℕ, ◌≤◌}
use Rattle.std.specs.Prelude.{◌≡◌, true, length, take, leb, ℤ}
use Rattle.std.proofs.Math.Path.{refl, sym, ap}
use Rattle.std.proofs.Common.{◌∙◌, arith}
use mathlib.Core.List.{List, ◌∷◌, ◌++◌, append_assoc}
use borrow.Author.Tests.{leb-true, le-leb}
use Rattle.std.proofs.Math.ListN.{drop, replicate, length-append}
use Rattle.std.proofs.Math.Seq.{take_at}
use Rattle.definition.specs.declared.Settings.{Settings}
use Rattle.definition.specs.Checks.{Conditions, ◌otherwise◌, accepted}
use Rattle.definition.specs.CheckLaws.{All}
use Rattle.definition.proofs.CheckLaws.{and_both, and_right, all_both, guard_accepts}
use Rattle.definition.specs.File.{check_number, least_cells, least_to_pad, most_cells, longest_file, saved_store, file_of, contents_of, settings_fit}
use Rattle.definition.specs.Load.{header_conditions, record_conditions, cell_conditions, entity_conditions, file_conditions, loaded, entities_given, load}
use Rattle.definition.proofs.LoadLaws.{load_rows_law}
use Rattle.definition.proofs.RecordLaws.{length_globals}
use Rattle.definition.specs.Written.{padded_file}
use Rattle.writing_laws.specs.Loads.{header_loads, Lent}
use Rattle.padding_laws.specs.PaddedFile.{added_cells, padded_contents, padded_eight, padded_says, padded_count, padded_strings, padded_entities, padded_least}
use Rattle.padding_laws.specs.Padding.{Padded}

-- "a padding program, which alone still admits them": all that a load asks, with 36 for the least number of cells, beside whatever was lent
pub record Admitted (file : List ℕ) : Type 0 where
  pub number : ℕ
  pub lent : ℕ
  pub store : ℕ
  pub entities : ℕ
  pub loads : All (file_conditions least_to_pad check_number file number lent store entities)

module _ (file : List ℕ) where
  -- what a load asks of the records doesn't look at the cells
  same_records : (strings : ℕ) → record_conditions strings (padded_contents file) ≡ record_conditions strings (contents_of file)
  unfolding record_conditions
  same_records strings = refl

  -- under settings in range and the check number that it is written with
  module _ (s : Settings) (fit : settings_fit s ≡ true) (five : s.check_number ≡ check_number) (number : ℤ) (cells saved entities : List ℕ) where
    pub padded_loads : Admitted file → length (padded_file file) ≤ longest_file → Lent (padded_file file) number cells saved entities
        → load s (padded_file file) number cells saved entities ≡ accepted (loaded s (padded_file file) (entities_given number) cells saved entities)
    unfolding load cell_conditions
    padded_loads a short lent =
        let rows = load_rows_law least_to_pad check_number file a.number a.lent a.store a.entities a.loads in
        let p : List ℕ = padded_file file in
        let count : ℕ = (file_of p).globals.count in
        let hs : Conditions = header_conditions s.check_number p in
        let rs : Conditions = record_conditions (file_of p).strings.count (contents_of p) in
        let cs : Conditions = cell_conditions least_cells (file_of p) (length cells) (length saved) in
        let es : Conditions = entity_conditions (file_of p) (entities_given number) (length entities) in
        let of_header : All hs = rw five (header_loads check_number (padded_contents file) (padded_eight file) short) in
        let of_records : All rs = rw (padded_says file, padded_strings file, same_records (file_of file).strings.count) rows.records in
        let most : (file_of file).globals.count ≤ most_cells =
        leb-true _ _ (and_right (leb least_to_pad (file_of file).globals.count) (leb (file_of file).globals.count most_cells) rows.cells.0) in
        let few : count ≤ most_cells = omega (arith, padded_count file, length_globals file) in
        let of_count = and_both (leb least_cells count) (leb count most_cells) (le-leb _ _ (padded_least file)) (le-leb _ _ few) in
        let of_lent = and_both (leb count (length cells)) (leb saved_store (length saved)) (le-leb _ _ lent.enough) (le-leb _ _ lent.store) in
        let of_cells : All cs = (of_count, (rw (padded_entities file) rows.cells.1.0, (of_lent, tt))) in
        let of_entities : All es = (lent.fields, tt) in
        guard_accepts ((settings_fit s otherwise 36) ∷ hs ++ rs ++ cs ++ es) (loaded s p (entities_given number) cells saved entities)
        (fit, all_both (hs ++ rs ++ cs) es (all_both (hs ++ rs) cs (all_both hs rs of_header of_records) of_cells) of_entities)

  module _ (s : Settings) (n : ℕ) (cells cells' saved entities : List ℕ) where
    -- "zero cells added": the cells that it starts from
    pub padded_starts : (loaded s (padded_file file) n cells' saved entities).cells
        ≡ (contents_of file).globals ++ replicate (added_cells file) 0 ++ drop (file_of (padded_file file)).globals.count cells'
    unfolding loaded
    padded_starts = rw (padded_says file) refl

    -- and all else is as the old file would start
    pub padded_start : Padded file (loaded s file n cells saved entities) (loaded s (padded_file file) n cells' saved entities)
    unfolding loaded
    padded_start =
        let count : ℕ = (file_of file).globals.count in
        let more : ℕ = (file_of (padded_file file)).globals.count in
        let own : List ℕ = (contents_of file).globals in
        let zeros : List ℕ = replicate (added_cells file) 0 in
        let size = length-append (contents_of (padded_file file)).globals (drop more cells') in
        record {
          lent = omega (arith, size, length_globals (padded_file file), padded_least file);
          enough = omega (arith, size, length_globals (padded_file file), padded_count file);
          old =
              ap (take count) (padded_starts ∙ append_assoc own zeros (drop more cells'))
              ∙ take_at own (zeros ++ drop more cells') count (length_globals file)
              ∙ sym (take_at own (drop count cells) count (length_globals file));
          saved = refl;
          entities = refl;
          state = refl;
        }
