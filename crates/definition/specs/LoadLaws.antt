-- What laws of a load speak of: the ranges of its settings, and the rows of its conditions, one by one.
use Rattle.std.specs.Prelude.{ℕ, ◌≤◌, List}
use Rattle.definition.specs.declared.Settings.{Settings}
use Rattle.definition.specs.File.{file_of, contents_of}
use Rattle.definition.specs.Load.{header_conditions, record_conditions, cell_conditions, entity_conditions}
use Rattle.definition.specs.CheckLaws.{All}

-- settings in range, by the numbers of R-11: "Check number (0 to 65,535), greatest depth (1 to 31), greatest saved count (0 to 2,048) and greatest run
-- limit (1 to 99,999)"
pub record InRange (s : Settings) : Type 0 where
  pub check_most : s.check_number ≤ 65535
  pub depth_least : 1 ≤ s.depth
  pub depth_most : s.depth ≤ 31
  pub saved_most : s.saved ≤ 2048
  pub limit_least : 1 ≤ s.limit
  pub limit_most : s.limit ≤ 99999

-- the conditions of a load of a file hold, row by row; `least` is the least number of cells
pub record LoadRows (least check : ℕ) (file : List ℕ) (n lent store entities : ℕ) : Type 0 where
  pub header : All (header_conditions check file)
  pub records : All (record_conditions (file_of file).strings.count (contents_of file))
  pub cells : All (cell_conditions least (file_of file) lent store)
  pub fields : All (entity_conditions (file_of file) n entities)
