use Rattle.std.proofs.Common.{rules, refl}
use Rattle.definition.specs.Machine.{with_unpacked}
use Rattle.definition.specs.Load.{program_of}
use Rattle.second_engine.proofs.StepLaws.{call_there, step_done}
use Rattle.second_engine.proofs.step.Goals as goal

pub perform-requires-clause-call_at : goal.perform-requires-clause-call_at
perform-requires-clause-call_at c =
    call_there _ _ _ _ c.args.store.now _ c.requires.within _ _ c.requires.own.0 c.requires.own.1 _ (search rules) _ _ _ c.in_ok-done.ensures

pub returns-clause-outcome : goal.returns-clause-outcome
returns-clause-outcome c =
    step_done _ _ _ _ _ _ c.requires.within _ _ c.requires.own.0 c.requires.own.1 _ (search rules) _ _ _ c.in_ok-done.ensures _ _ _ _ (c.perform.ensures.outcome (with_unpacked (program_of c.args.file.now) c.args.buffer.now) _ refl)
