use Rattle.std.proofs.Common.{ap}
use Rattle.progs.specs.Contexts.{range_of}
use Rattle.progs.proofs.FileLaws.{no_function_there}
use Rattle.progs.proofs.ExecutionContext.locals.Goals as goal

pub returns-then-self : goal.returns-then-self
returns-then-self c = ap range_of (no_function_there _ _ c.requires _ c.if-self.true)
