use Rattle.std.proofs.Common.{rules, refl}
use Rattle.server.proofs.StepLaws.{call_at_statement, step_done}
use Rattle.server.proofs.step.Goals as goal

pub perform-requires-clause-call_at : goal.perform-requires-clause-call_at
perform-requires-clause-call_at c = call_at_statement _ _ _ c.args.store.now _ c.requires.within _ _ c.requires.own.0 c.requires.own.1 _ (search rules) _ _ _ c.in_ok-done.ensures

pub returns-clause-outcome : goal.returns-clause-outcome
returns-clause-outcome c =
    step_done _ _ _ _ _ c.requires.within _ _ c.requires.own.0 c.requires.own.1 _ (search rules) _ _ _ c.in_ok-done.ensures _ _ _ _ (c.perform.ensures.outcome _ _ refl)
