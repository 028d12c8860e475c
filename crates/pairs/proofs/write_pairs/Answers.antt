use Rattle.std.proofs.Common.{◌∙◌, sym, rules, arith, length, length-set, pos, FitsSigned, w64, slice_index_or}
use Rattle.std.proofs.Math.Facts.{to_z-of_z}
use Rattle.pairs.proofs.PairLaws.{none_left, Good, good}
use Rattle.pairs.proofs.write_pairs.Goals as goal
use Rattle.pairs.proofs.write_pairs.Goals.{In-Some}

-- the pair of this turn
pair : (c : In-Some) → let part = c.loop-pair.pair-iterator.rest.now in
    Good part c.in-Some.pair.now c.next.new.self.rest.now c.in-Some.ensures.steps.1.0 (c.in-Some.ensures.steps.1.1 ∙ c.loop-pair.invariant.size) (length c.args.cells.now)
pair c = good _ _ _ _ _ _ c.loop-pair.invariant.good

pub overflow_cast-cells : goal.overflow_cast-cells
overflow_cast-cells c =
    let g : FitsSigned w64 (slice_index_or c.in-Some.pair.now 1 (pos 0)) = search rules in
    let p = pair (goal.at.overflow_cast-cells c).In-Some in
    rw (to_z-of_z g, p.value_is) (tt, record { fits = omega (arith, p.value_fits) })

pub overflow_cast-cells-in-loop-pair : goal.overflow_cast-cells-in-loop-pair
overflow_cast-cells-in-loop-pair c =
    let g : FitsSigned w64 (slice_index_or c.in-Some.pair.now 0 (pos 0)) = search rules in
    let p = pair (goal.at.overflow_cast-cells-in-loop-pair c).In-Some in
    rw (to_z-of_z g, p.address_is) (tt, record { fits = omega (arith, p.cell_there) })

pub offset_bounds-cells-pair : goal.offset_bounds-cells-pair
offset_bounds-cells-pair c =
    let g : FitsSigned w64 (slice_index_or c.in-Some.pair.now 0 (pos 0)) = search rules in
    let p = pair (goal.at.offset_bounds-cells-pair c).In-Some in
    rw (to_z-of_z g, p.address_is) (record { fits = omega (arith, p.cell_there) })

pub bounds-cells-pair : goal.bounds-cells-pair
bounds-cells-pair c =
    let g : FitsSigned w64 (slice_index_or c.in-Some.pair.now 0 (pos 0)) = search rules in
    let p = pair (goal.at.bounds-cells-pair c).In-Some in
    rw (to_z-of_z g, p.address_is) (omega (arith, p.cell_there))

pub loop-pair-preserved : goal.loop-pair-preserved
loop-pair-preserved c =
    let g : FitsSigned w64 (slice_index_or c.in-Some.pair.now 0 (pos 0)) = search rules in
    let h : FitsSigned w64 (slice_index_or c.in-Some.pair.now 1 (pos 0)) = search rules in
    let k = c.loop-pair.invariant in
    let p = pair (goal.at.loop-pair-preserved c).In-Some in
    record {
      size = c.in-Some.ensures.steps.0 ∙ k.size;
      cells = simp length-set k.cells;
      good = p.rest_good;
      rest = rw (to_z-of_z g, to_z-of_z h, p.address_is, p.value_is) (p.written _) ∙ k.rest;
    }

pub returns : goal.returns
returns c = let k = c.loop-pair.invariant in sym (none_left _ (rw k.size at c.in-None.ensures.steps.1.0) 0 _).1 ∙ k.rest
