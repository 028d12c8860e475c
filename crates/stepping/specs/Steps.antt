-- A STEP'S RESULT AS A STATEMENT'S, so that both promises have one definition.
use Rattle.definition.specs.declared.StatementAnswer.{StatementAnswer}
use Rattle.progs.specs.declared.ExecutionContext.{ExecutionContext}
use Rattle.server.specs.declared.Stepped.{Stepped}

abbrev pub stepped : ExecutionContext → StatementAnswer → Stepped
stepped x a = record { context = x; answer = a }
