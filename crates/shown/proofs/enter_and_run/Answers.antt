use Rattle.shown.proofs.Laws.{entry_refused}
use Rattle.shown.proofs.enter_and_run.Goals as goal

pub returns-in-Err : goal.returns-in-Err
returns-in-Err c = rw c.refused.ensures (entry_refused _ _ _ _ c.in-Err.ensures)
