-- WHAT A STATEMENT AND A RUN ANSWER, in terms of the definition.
use Rattle.std.specs.Prelude.{ℕ, List, [], ◌∷◌, Option, Some, None, Result, Ok, Err, ℤ, pos, ◌+ℤ◌}
use Rattle.definition.specs.declared.Handover.{Handover}
use Rattle.definition.specs.declared.refusal.Refusal.{Refusal}
use Rattle.definition.specs.declared.StatementAnswer.{StatementAnswer}
use Rattle.definition.specs.declared.StatementAnswer.TheVariants as statement
use Rattle.definition.specs.declared.RunAnswer.{RunAnswer}
use Rattle.definition.specs.declared.RunAnswer.TheVariants as run
use Rattle.definition.specs.Checks.{Conditions, ◌otherwise◌, guard}
use Rattle.definition.specs.Refusals.{number}
use Rattle.definition.specs.Machine as machine
use Rattle.definition.specs.Machine.{Program, Config, advanced, enter, return_conditions, returned, as_step, completed, handed_step}
use Rattle.definition.specs.Operations.{natural, below, permitted}
use Rattle.definition.specs.Answers.{StatementOutcome}
use Rattle.execution.specs.declared.Executed.{Executed}
use Rattle.execution.specs.declared.Executed.TheVariants as does
use Rattle.progs.specs.declared.ExecutionContext.{ExecutionContext}
use Rattle.progs.specs.Contexts.{config, AtStatement}
use Rattle.server.specs.declared.Bounds.{Bounds}
use Rattle.server.specs.declared.Stepped.{Stepped}
use Rattle.server.specs.declared.Ran.{Ran}

abbrev pub stepped_of : Stepped → List ℕ → List ℕ → List ℕ → StatementOutcome
stepped_of r cells saved entities = record { answer = r.answer; config = config r.context cells saved entities }

abbrev pub ran_of : Ran → List ℕ → List ℕ → List ℕ → machine.Ran
ran_of r cells saved entities = record { answer = r.answer; count = r.count; config = config r.context cells saved entities }

abbrev pub ran_as : ExecutionContext → RunAnswer → ℕ → Ran
ran_as x answer count = record { context = x; answer = answer; count = count }

-- ---- one statement

-- what the code's step answers: nothing where it completed, what it hands over, or its refusal
abbrev pub step_answer : Result (Option Handover) Refusal → StatementAnswer
step_answer (Ok None) = statement.Completed
step_answer (Ok (Some h)) = statement.HandedOver h
step_answer (Err r) = statement.Refused (number r)

abbrev pub stepping_of : Result (Option Handover) Refusal → ExecutionContext → List ℕ → List ℕ → List ℕ → StatementOutcome
stepping_of r x cells saved entities = record { answer = step_answer r; config = config x cells saved entities }

-- the step where that was done, and the cells and the entity cells are as it left them
abbrev pub step_by : Program → Executed → Config → machine.Stepped
step_by P (does.Next p) c = completed (advanced c p c.cells c.entities)
step_by P (does.Calls f) c = as_step (enter P f (c.state.pc +ℤ pos 1) c)
step_by P (does.Returns a) c = as_step (guard (return_conditions P a c) (returned P a c))
step_by P (does.HandedOver h) c = handed_step h

-- a Call is one of the statements, so that there is a position after it
abbrev pub CallAt : Executed → ℤ → Type 0
CallAt (does.Next q) p = Unit {0}
CallAt (does.Calls f) p = AtStatement p
CallAt (does.Returns a) p = Unit {0}
CallAt (does.HandedOver h) p = Unit {0}

-- what a run of one statement says of the statement, whatever its target
abbrev pub statement_answer : RunAnswer → StatementAnswer
statement_answer run.Ended = statement.Completed
statement_answer run.Spent = statement.Completed
statement_answer (run.Refused n) = statement.Refused n
statement_answer (run.HandedOver h) = statement.HandedOver h

-- ---- a run

-- the last conditions of a run: 28, 29
abbrev pub bounds_conditions : ℤ → ℤ → ℕ → ℕ → Conditions
bounds_conditions target limit most depth = (permitted limit most otherwise 28) ∷ (below target depth otherwise 29) ∷ []

abbrev pub bounds_of : ℤ → ℤ → Bounds
bounds_of target limit = record { limit = natural limit; target = natural target }
