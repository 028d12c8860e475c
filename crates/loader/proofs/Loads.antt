-- What it shows of a file that no condition of a load fails: the header is there, its lumps lie in the file, and there is room for the starting cells.
use Rattle.std.proofs.Common.{ℕ, ◌≤◌, ◌<◌, ◌≡◌, List, length, leb, leb-true}
use Rattle.definition.specs.declared.FileRecord.{FileRecord}
use Rattle.definition.specs.Checks.{judge}
use Rattle.definition.specs.File.{file_of}
use Rattle.definition.specs.Load.{header_conditions, cell_conditions, file_conditions}
use Rattle.definition.proofs.CheckLaws.{and_left, and_right, judge_passed}
use Rattle.definition.proofs.LoadLaws.{load_rows_law}
use Rattle.functions.specs.Laws.{AllFit, all_fit, entity_size}

pub record Loads (file : List ℕ) (lent : ℕ) (r : FileRecord) : Type 0 where
  pub header : 60 ≤ length file
  pub lumps : AllFit (length file) r
  pub cells_fit : r.globals.count ≤ lent
  pub cells_most : r.globals.count ≤ 32768
  pub size : r.entityfields < 2147483648

pub loads : (least check : ℕ) (file : List ℕ) (n lent store entities : ℕ) (r : FileRecord) → judge (file_conditions least check file n lent store entities) ≡ 0 → r ≡ file_of file
    → Loads file lent r
unfolding file_of header_conditions cell_conditions
loads least check file n lent store entities r z e =
    let f = file_of file in
    let rows = load_rows_law least check file n lent store entities (judge_passed (file_conditions least check file n lent store entities) z) in
    let count = f.globals.count in
    let bytes : 60 ≤ length file = leb-true _ _ (and_left (leb 60 (length file)) (leb (length file) 1048576) rows.header.0) in
    let fits : count ≤ lent = leb-true _ _ (and_left (leb count lent) (leb 2048 store) rows.cells.1.1.0) in
    let most : count ≤ 32768 = leb-true _ _ (and_right (leb least count) (leb count 32768) rows.cells.0) in
    rw e (record { header = bytes; lumps = all_fit f rows.header.1.1.1.0; cells_fit = fits; cells_most = most; size = (entity_size f rows.cells.1.0).most })
