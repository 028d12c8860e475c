use Rattle.progs.specs.Numbers.{numbered}
use Rattle.progs.proofs.NumberLaws.{functions_there, functions_read, functions_absent, entering_20}
use Rattle.progs.proofs.calls.enter_cells.Goals as goal

pub returns-then-functions-f : goal.returns-then-functions-f
returns-then-functions-f c = λ P q. entering_20 P _ (numbered c.args.settings c.args.depth c.args.held c.args.count) _ _ (functions_absent _ _ P q c.if-functions-f.true)

pub returns : goal.returns
returns c = λ P q. c.enter_found.ensures P _ (functions_there _ _ P q c.if-functions-f.false) (functions_read _ _ _ P q c.get_def-def.ensures)
