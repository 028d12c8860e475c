use Rattle.std.proofs.Common.{arith}
use Rattle.std.proofs.lemmas.Grind.{common_steps}
use Rattle.definition.specs.Machine.{entities_of}
use Rattle.progs.specs.Contexts.{config}
use Rattle.progs.proofs.HostLaws.{carry_sound}
use Rattle.progs.proofs.OutcomeLaws.{guard_number, guard_clear}
use Rattle.progs.proofs.ExecutionContext.carry_on.Goals as goal

pub returns-in_err-k : goal.returns-in_err-k
returns-in_err-k c =
    let e = c.in_err-k.ensures.refusal (entities_of (config c.args.self.now c.args.cells.now c.args.store.now c.args.entities.now)) in
    grind (arith, common_steps, carry_sound, guard_number)

pub returns : goal.returns
returns c =
    let e = c.in_ok-k.ensures.refusal (entities_of (config c.args.self.now c.args.cells.now c.args.store.now c.args.entities.now)) in
    grind (arith, common_steps, carry_sound, guard_clear)
