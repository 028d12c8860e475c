use Rattle.std.proofs.Common.{sym, ◌∙◌}
use Rattle.server.proofs.HostLaws.{statement_so}
use Rattle.server.proofs.statement.Goals as goal

pub returns : goal.returns
returns c = rw c.answer_of.ensures (statement_so _ _ _ _ _ (sym c.check_state.ensures ∙ c.if-not-check_state.false) _ _ c.run_for-ran.ensures)
