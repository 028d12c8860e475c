use Rattle.std.proofs.Common.{rules}
use Rattle.server.proofs.StepLaws.{call_refused, call_done, return_refused, return_done}
use Rattle.server.proofs.perform.Goals as goal

pub returns-in_err-enter_function-in-Calls-clause-outcome : goal.returns-in_err-enter_function-in-Calls-clause-outcome
returns-in_err-enter_function-in-Calls-clause-outcome c =
    λ P es same.
    call_refused P _ same c.args.context.now _ _ _ es _ _ _ _ c.in-Calls.is c.requires.call_at c.place_of.result (search rules) _ _ (c.in_err-enter_function-in-Calls.ensures.outcome es) (search rules) _ (search rules)

pub returns-in_ok-enter_function-in-Calls-clause-outcome : goal.returns-in_ok-enter_function-in-Calls-clause-outcome
returns-in_ok-enter_function-in-Calls-clause-outcome c =
    λ P es same. call_done P _ same c.args.context.now _ _ _ es _ _ _ _ c.in-Calls.is c.requires.call_at c.place_of.result (search rules) _ (c.in_ok-enter_function-in-Calls.ensures.outcome es) (search rules)

pub returns-in_err-op_return-in-Returns-clause-outcome : goal.returns-in_err-op_return-in-Returns-clause-outcome
returns-in_err-op_return-in-Returns-clause-outcome c =
    λ P es same. return_refused P _ same _ _ _ _ es _ _ _ _ c.in-Returns.is _ _ (search rules) (c.in_err-op_return-in-Returns.ensures.outcome es)

pub returns-in_ok-op_return-in-Returns-clause-outcome : goal.returns-in_ok-op_return-in-Returns-clause-outcome
returns-in_ok-op_return-in-Returns-clause-outcome c = λ P es same. return_done P _ same _ _ _ _ es _ _ _ _ c.in-Returns.is (c.in_ok-op_return-in-Returns.ensures.outcome es)
