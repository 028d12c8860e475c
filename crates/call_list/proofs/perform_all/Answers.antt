use Rattle.std.proofs.Common.{◌∙◌, length-set}
use Rattle.std.proofs.lemmas.Bool.{false≢true}
use Rattle.call_list.proofs.Lists.{formed_here, left_replied, left_end}
use Rattle.call_list.specs.Encoding.{formed_at}
use Rattle.call_list.proofs.perform_all.Goals as goal

pub unreachable-requires : goal.unreachable-requires
unreachable-requires c =
    let here = formed_here (formed_at c.args.calls.now c.args.numbers.now) c.args.n c.loop-i.i c.loop-i-test.true c.loop-i.invariant.formed in
    let e = c.in_default.ensures.formed ∙ here.0 in
    false≢true e

pub loop-i-preserved : goal.loop-i-preserved
loop-i-preserved c =
    let i = c.loop-i.invariant in
    let t = c.loop-i-test.true in
    let p = c.perform-done in
    record {
      answers_long = simp length-set i.answers_long;
      cells_long = p.auto.cells ∙ i.cells_long;
      store_long = p.auto.store ∙ i.store_long;
      entities_long = p.auto.entities ∙ i.entities_long;
      formed = (formed_here (formed_at c.args.calls.now c.args.numbers.now) c.args.n c.loop-i.i t i.formed).1;
      left = left_replied _ _ _ _ _ _ _ _ _ i.left t _ c.in-Some.ensures.call.0 _ _ _ _ p.ensures;
    }

pub returns : goal.returns
returns c = let e = left_end _ _ _ _ _ _ _ _ c.loop-i.invariant.left c.loop-i-test.false in record { entities_after = e.0; answers_after = e.1 }
