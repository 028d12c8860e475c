use Rattle.shown.proofs.Laws.{load_refused, load_accepted, prints}
use Rattle.shown.proofs.show.Goals as goal

pub returns-in-Err-clause-entities_after : goal.returns-in-Err-clause-entities_after
returns-in-Err-clause-entities_after c =
    prints _ _ _ c.refused_line-in-Err.ensures.result_after
    (load_refused _ _ _ _ c.if-file-gt-LONGEST_INPUT.false _ _ _ c.number-in-Err.ensures (rw c.standard.ensures at c.in-Err.ensures))

pub returns-in-Ok-clause-entities_after : goal.returns-in-Ok-clause-entities_after
returns-in-Ok-clause-entities_after c =
    prints _ _ _ c.state_line.ensures.result_after
    (load_accepted _ _ _ _ c.if-file-gt-LONGEST_INPUT.false _ _ (rw c.standard.ensures at c.in-Ok.ensures) c.enter_and_run-ran.ensures)
