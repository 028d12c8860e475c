use Rattle.std.proofs.Common.{ap, ◌∙◌}
use Rattle.progs.specs.Contexts.{range_of}
use Rattle.progs.proofs.NumberLaws.{functions_absent, functions_read, no_function_law}
use Rattle.progs.proofs.calls.locals_of.Goals as goal

pub returns-then-functions-f : goal.returns-then-functions-f
returns-then-functions-f c = λ P q. no_function_law P _ (functions_absent _ _ P q c.if-functions-f.true)

pub returns : goal.returns
returns c = λ P q. c.local_range.ensures ∙ ap range_of (functions_read _ _ _ P q c.get_def.ensures)
