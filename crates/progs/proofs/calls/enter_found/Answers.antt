use Rattle.std.proofs.Common.{◌≡◌, Err, rules, refl, arith, pos, w64, FitsSigned}
use Rattle.std.proofs.Math.Facts.{to_z_pos}
use Rattle.progs.specs.Numbers.{numbered}
use Rattle.progs.proofs.CopyLaws.{present_of, present_more, copies_more}
use Rattle.progs.proofs.NumberLaws.{entering_refused, entering_done}
use Rattle.progs.proofs.calls.enter_found.Goals as goal

pub returns-in_err-check_entry : goal.returns-in_err-check_entry
returns-in_err-check_entry c =
    let r : c.from_residual.result ≡ Err c.in_err-check_entry.field-0.0 = search rules in
    λ P f there is.
    rw r
    (entering_refused P _ (numbered c.args.settings c.args.depth c.args.held c.args.count) _ _ _
    (c.in_err-check_entry.ensures.refusal P f there is))

pub move_cells-requires-clause-src_value : goal.move_cells-requires-clause-src_value
move_cells-requires-clause-src_value c = present_more _ _ _ _ c.requires.3 (c.in_ok-check_entry.ensures.cells refl).0

pub move_cells-requires-clause-dst_value : goal.move_cells-requires-clause-dst_value
move_cells-requires-clause-dst_value c = let room = c.in_ok-check_entry.ensures.room refl in present_of _ _ _ (omega (arith, room.1, c.requires.1, c.requires.2))

pub copy_arguments-requires-clause-argsz_value : goal.copy_arguments-requires-clause-argsz_value
copy_arguments-requires-clause-argsz_value c = copies_more _ _ _ c.requires.3 (c.in_ok-check_entry.ensures.cells refl).1

pub returns : goal.returns
returns c =
    λ P f there is.
    let fits : FitsSigned w64 (pos c.args.def.first) = search rules in
    entering_done P _ (numbered c.args.settings c.args.depth c.args.held c.args.count) _ _ _ _ _ _ (c.in_ok-check_entry.ensures.refusal P f there is) is (to_z_pos w64 fits.sfits) c.copy_arguments.ensures c.move_cells.ensures
