use Rattle.std.proofs.Common.{rules}
use Rattle.second_engine.proofs.QuickLaws.{quick_if, quick_if_not, quick_floats}
use Rattle.second_engine.proofs.quick.do_one.Goals as goal

pub returns-then-s-eq-IF : goal.returns-then-s-eq-IF
returns-then-s-eq-IF c =
    λ k e from all.
    quick_if _ _ _ _ (search rules) _ _ c.in-Ok.ensures k from _ c.requires.untyped_in_bounds.1 all e _ c.if-s-eq-IF.true _ c.from-x.ensures c.if-untyped-x.false _ (search rules)

pub returns-then-s-eq-IF_NOT : goal.returns-then-s-eq-IF_NOT
returns-then-s-eq-IF_NOT c =
    λ k e from all.
    quick_if_not _ _ _ _ (search rules) _ _ c.in-Ok.ensures k from _ c.requires.untyped_in_bounds.1 all e _ c.if-s-eq-IF_NOT.true _ c.from-x.ensures c.if-untyped-x.false _ (search rules)

pub returns : goal.returns
returns c =
    λ k e from all.
    quick_floats _ _ _ _ (search rules) _ _ c.in-Ok.ensures k from _ c.requires.untyped_in_bounds.1 all e _ _ _ _ c.from-x.ensures c.from-y.ensures c.from-z.ensures c.if-untyped-x.false c.if-untyped-y.false c.if-untyped-z.false _ c.in_ok-cells.ensures.0 c.in_ok-cells.ensures.1 _ (search rules)
