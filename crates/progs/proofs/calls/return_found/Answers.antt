use Rattle.std.proofs.Common.{◌≡◌, Err, rules, refl, sym, ◌∙◌, arith}
use Rattle.progs.specs.Numbers.{numbered_in}
use Rattle.progs.proofs.CopyLaws.{present_more, present_of}
use Rattle.progs.proofs.ReturnLaws.{returning_15, returning_refused, returning_done}
use Rattle.progs.proofs.calls.return_found.Goals as goal

pub returns-then-not-in_range : goal.returns-then-not-in_range
returns-then-not-in_range c = λ P f is. returning_15 P _ (numbered_in f c.args.depth c.args.held c.args.count) _ _ (sym c.in_range.ensures ∙ c.if-not-in_range.true)

pub returns-in_err-check_leaving : goal.returns-in_err-check_leaving
returns-in_err-check_leaving c =
    let r : c.from_residual.result ≡ Err c.in_err-check_leaving.field-0.0 = search rules in
    λ P f is.
    rw r
    (returning_refused P _ (numbered_in f c.args.depth c.args.held c.args.count) _ _ (sym c.in_range.ensures ∙ c.if-not-in_range.false) _
    (c.in_err-check_leaving.ensures.refusal P f is))

pub copy_cells-requires-clause-cells_value : goal.copy_cells-requires-clause-cells_value
copy_cells-requires-clause-cells_value c = present_more _ _ _ _ c.requires.3 (sym c.in_range.ensures ∙ c.if-not-in_range.false)

pub copy_cells-requires-clause-cells_value_2 : goal.copy_cells-requires-clause-cells_value_2
copy_cells-requires-clause-cells_value_2 c = present_of _ _ _ (omega (arith, c.requires.2, c.requires.3))

pub move_cells-requires-clause-src_value : goal.move_cells-requires-clause-src_value
move_cells-requires-clause-src_value c = let room = c.in_ok-check_leaving.ensures.room refl in present_of _ _ _ (omega (arith, room.1, c.requires.0, c.requires.1))

pub move_cells-requires-clause-dst_value : goal.move_cells-requires-clause-dst_value
move_cells-requires-clause-dst_value c =
    let room = c.in_ok-check_leaving.ensures.room refl in
    present_more _ _ _ _ (omega (arith, c.requires.3, c.copy_cells.auto.cells)) room.2

pub returns : goal.returns
returns c =
    λ P f is.
    returning_done P _ (numbered_in f c.args.depth c.args.held c.args.count) _ _ (sym c.in_range.ensures ∙ c.if-not-in_range.false) _ _ _ (c.in_ok-check_leaving.ensures.refusal P f is) is c.copy_cells.ensures c.move_cells.ensures
