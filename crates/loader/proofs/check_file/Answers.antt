use Rattle.std.proofs.Common.{refl}
use Rattle.definition.specs.File.{file_of}
use Rattle.loader.proofs.Rows.{header_passed, size_below}
use Rattle.loader.proofs.check_file.Goals as goal

pub file_of-r-requires : goal.file_of-r-requires
file_of-r-requires c = (header_passed _ _ c.in_ok-check_header.ensures).header

pub check_records-requires : goal.check_records-requires
unfolding file_of
check_records-requires c = rw c.file_of-r.ensures ((header_passed _ _ c.in_ok-check_header.ensures).lumps, refl)

pub entities_fit-requires : goal.entities_fit-requires
entities_fit-requires c = size_below _ _ _ _ c.in_ok-check_cells.ensures
