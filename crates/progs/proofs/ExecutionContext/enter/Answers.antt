use Rattle.std.proofs.Common.{arith}
use Rattle.std.proofs.lemmas.Grind.{common_steps}
use Rattle.progs.proofs.HostLaws.{enter_sound}
use Rattle.progs.proofs.ExecutionContext.enter.Goals as goal

pub returns : goal.returns
returns c = let e = c.enter_function.ensures.outcome c.args.entities.now in grind (arith, common_steps, enter_sound)
