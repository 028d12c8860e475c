use Rattle.std.proofs.Common.{refl, ◌∙◌}
use Rattle.progs.proofs.ReturnLaws.{leave_by_count}
use Rattle.progs.proofs.ExecutionContext.check_leaving.Goals as goal

pub returns-clause-refusal : goal.returns-clause-refusal
returns-clause-refusal c = λ P e. c.check_leaving.ensures.refusal P _ e ∙ leave_by_count P c.args.self.now _ refl
