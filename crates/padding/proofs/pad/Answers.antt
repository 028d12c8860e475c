use Rattle.std.specs.Prelude.{Ok, Err}
use Rattle.padding.proofs.Laws.{printed}
use Rattle.padding.proofs.pad.Goals as goal

pub returns-in-Ok-clause-result_after : goal.returns-in-Ok-clause-result_after
returns-in-Ok-clause-result_after c = (printed _ _ (Ok c.in-Ok.length) _ c.in-Ok.ensures).0

pub returns-in-Ok-clause-upper_bound : goal.returns-in-Ok-clause-upper_bound
returns-in-Ok-clause-upper_bound c = (printed _ _ (Ok c.in-Ok.length) _ c.in-Ok.ensures).1

pub returns-in-Err-clause-result_after : goal.returns-in-Err-clause-result_after
returns-in-Err-clause-result_after c =
    let p = printed _ _ (Err c.in-Err.refusal) _ c.in-Err.ensures in
    rw (c.number.ensures, p.0, p.1) at c.refused_line.ensures.result_after
