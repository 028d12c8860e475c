-- LAWS OF THE PADDING PROGRAM (document 02, R-7): what it writes loads; a file that needs no cells is read and refused as a load does; what it writes is padded alike.
use Rattle.std.specs.Prelude.{ℕ, ◌≤◌, ◌≡◌, List, [], ◌∷◌, ◌++◌, true, ℤ, leb}
use Rattle.std.proofs.Math.Path.{refl}
use Rattle.std.proofs.Common.{ap, ◌∙◌, arith, leb-true, le-leb}
use Rattle.std.proofs.Math.ListN.{length}
use Rattle.definition.specs.declared.Settings.{Settings}
use Rattle.definition.specs.Checks.{Conditions, ◌otherwise◌, judge, guard, accepted}
use Rattle.definition.proofs.CheckLaws.{judge_passed, all_front, all_back}
use Rattle.definition.specs.File.{check_number, least_cells, least_to_pad, most_cells, saved_store, file_of, contents_of, settings_fit}
use Rattle.definition.proofs.RecordLaws.{length_globals}
use Rattle.definition.specs.Load.{cell_conditions, file_conditions, loaded, entities_given, load}
use Rattle.definition.specs.Written.{written, padded, padded_file}
use Rattle.writing_laws.specs.Loads.{Lent}
use Rattle.writing_laws.specs.Lumps.{padded_none}
use Rattle.padding_laws.specs.PaddedFile.{added_cells, padded_says, padded_least}
use Rattle.padding_laws.specs.Loads.{Admitted, padded_loads}
use Rattle.padding.specs.Padding.{longest, pad_conditions, pad_text}

module _ (file : List ℕ) where
  abbrev loads : Conditions
  loads = file_conditions least_to_pad check_number file 0 most_cells saved_store 0

  abbrev room : Conditions
  room = (leb (length (padded_file file)) longest otherwise 34) ∷ []

  -- where nothing refuses, the padded file is all that is printed
  pub pad_writes : judge (pad_conditions file) ≡ 0 → pad_text file ≡ padded_file file
  unfolding pad_text guard
  pad_writes h = rw h refl

  -- and it loads, given what 12 and 13 ask, under settings in range and 01's check number
  pub pad_loads : judge (pad_conditions file) ≡ 0 → (s : Settings) → settings_fit s ≡ true → s.check_number ≡ check_number → (number : ℤ) (cells saved entities : List ℕ) → Lent (padded_file file) number cells saved entities
      → load s (padded_file file) number cells saved entities ≡ accepted (loaded s (padded_file file) (entities_given number) cells saved entities)
  unfolding pad_conditions
  pad_loads h s fit five number cells saved entities lent =
      let all = judge_passed (pad_conditions file) h in
      let admitted : Admitted file = record { number = 0; lent = most_cells; store = saved_store; entities = 0; loads = all_front loads room all.1 } in
      let short : length (padded_file file) ≤ longest = leb-true _ _ (all_back loads room all.1).0 in
      padded_loads file s fit five number cells saved entities admitted (omega arith) lent

  -- "It reads and refuses as the show program does": a file of 64 cells or more by the conditions of a load, and then 34
  pub as_a_load : least_cells ≤ (file_of file).globals.count
      → pad_conditions file ≡ (leb (length file) longest otherwise 1) ∷ file_conditions least_cells check_number file 0 most_cells saved_store 0 ++ room
  unfolding pad_conditions cell_conditions
  as_a_load h = rw (le-leb least_cells (file_of file).globals.count h, le-leb least_to_pad (file_of file).globals.count (omega arith)) refl

  -- "run once": once more changes nothing
  pub padded_again : padded_file (padded_file file) ≡ padded_file file
  padded_again =
      let none : added_cells (padded_file file) ≡ 0 = omega (arith, padded_least file, length_globals (padded_file file)) in
      ap (λ (n : ℕ). written check_number (padded n (contents_of (padded_file file)))) none
      ∙ ap (written check_number) (padded_none (contents_of (padded_file file)) ∙ padded_says file)
