use Rattle.std.proofs.Common.{◌∙◌, sym, ap, rules, pos, [], FitsSigned, w64, slice_index_or}
use Rattle.std.specs.Prelude.{not}
use Rattle.std.proofs.Math.Facts.{to_z-of_z}
use Rattle.pairs.proofs.PairLaws.{none_left, value_law, bad_address, bad_value, good_pair}
use Rattle.pairs.proofs.check_pairs.Goals as goal

pub returns-then-count-place_of : goal.returns-then-count-place_of
returns-then-count-place_of c =
    let g : FitsSigned w64 (slice_index_or c.in-Some.pair.now 0 (pos 0)) = search rules in
    let k = c.loop-pair.invariant in
    let step = c.in-Some.ensures.steps in
    bad_address _ _ _ step.1.0 (step.1.1 ∙ k.size) _ (rw (c.place_of.ensures, to_z-of_z g) at c.if-count-place_of.true) ∙ k.rest

pub returns-then-is_err : goal.returns-then-is_err
returns-then-is_err c =
    let g : FitsSigned w64 (slice_index_or c.in-Some.pair.now 0 (pos 0)) = search rules in
    let h : FitsSigned w64 (slice_index_or c.in-Some.pair.now 1 (pos 0)) = search rules in
    let k = c.loop-pair.invariant in
    let step = c.in-Some.ensures.steps in
    bad_value _ _ _ step.1.0 (step.1.1 ∙ k.size) _ (rw (c.place_of.ensures, to_z-of_z g) at c.if-count-place_of.false)
    (value_law _ _ _ (rw (to_z-of_z h) at c.try_from.ensures) ∙ ap not (sym c.is_err.ensures.value ∙ c.if-is_err.true))
    ∙ k.rest

pub loop-pair-preserved : goal.loop-pair-preserved
loop-pair-preserved c =
    let g : FitsSigned w64 (slice_index_or c.in-Some.pair.now 0 (pos 0)) = search rules in
    let h : FitsSigned w64 (slice_index_or c.in-Some.pair.now 1 (pos 0)) = search rules in
    let k = c.loop-pair.invariant in
    let step = c.in-Some.ensures.steps in
    record {
      size = step.0 ∙ k.size;
      rest =
          good_pair _ _ _ step.1.0 (step.1.1 ∙ k.size) _ (rw (c.place_of.ensures, to_z-of_z g) at c.if-count-place_of.false)
          (value_law _ _ _ (rw (to_z-of_z h) at c.try_from.ensures) ∙ ap not (sym c.is_err.ensures.value ∙ c.if-is_err.false))
          ∙ k.rest;
    }

pub returns : goal.returns
returns c = let k = c.loop-pair.invariant in sym (none_left _ (rw k.size at c.in-None.ensures.steps.1.0) _ []).0 ∙ k.rest
