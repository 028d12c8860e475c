use Rattle.std.proofs.Common.{sym, ◌∙◌}
use Rattle.progs.proofs.HostLaws.{written_together}
use Rattle.progs.proofs.ExecutionContext.write_all.Goals as goal

pub returns : goal.returns
returns c = written_together _ _ _ _ _ _ (sym c.check_state.ensures ∙ c.if-not-check_state.false) _ _ c.write_all.ensures.value c.write_all.ensures.cells_after
