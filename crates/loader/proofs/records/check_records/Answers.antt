use Rattle.std.proofs.Common.{rules}
use Rattle.loader.proofs.Rows.{fit}
use Rattle.loader.proofs.records.check_records.Goals as goal

pub check_lump-requires : goal.check_lump-requires
check_lump-requires c = let all = fit _ _ c.requires in search rules

pub check_lump-requires-2 : goal.check_lump-requires-2
check_lump-requires-2 c = let all = fit _ _ c.requires in search rules

pub check_lump-requires-3 : goal.check_lump-requires-3
check_lump-requires-3 c = let all = fit _ _ c.requires in search rules

pub check_lump-requires-4 : goal.check_lump-requires-4
check_lump-requires-4 c = let all = fit _ _ c.requires in search rules
