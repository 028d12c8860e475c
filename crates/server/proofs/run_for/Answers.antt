use Rattle.std.proofs.Common.{arith}
use Rattle.server.proofs.RunLaws.{run_refused, run_handed, run_ended}
use Rattle.server.proofs.run_for.Goals as goal

pub returns-then-now-bounds : goal.returns-then-now-bounds
returns-then-now-bounds c = run_ended _ _ _ _ _ _ c.loop-count.invariant.left (omega arith) _ _ _ _ _ c.step.ensures.outcome (cc) c.if-now-bounds.true _ c.new.ensures

pub returns-in-Ok-Some : goal.returns-in-Ok-Some
returns-in-Ok-Some c = run_handed _ _ _ _ _ _ c.loop-count.invariant.left (omega arith) _ _ _ _ _ c.step.ensures.outcome _ (cc) _ c.new-in-Ok-Some.ensures

pub returns-in-Err : goal.returns-in-Err
returns-in-Err c = run_refused _ _ _ _ _ _ c.loop-count.invariant.left (omega arith) _ _ _ _ _ c.step.ensures.outcome _ (cc) _ c.refused.ensures
