use Rattle.execution.proofs.Fetching.{call_told}
use Rattle.execution.proofs.hands_over.Goals as goal

pub returns : goal.returns
returns c =
    λ p e.
    call_told _ _ p _ e _ c.requires.usable.lumps _ c.is_call.ensures c.if-not-is_call.false _ _ c.part.ensures c.part-functions.ensures _ c.cell_of.ensures _ (c.callee_at.ensures p) _ c.is_hosts.ensures
