-- `load_file::print_file` meets its contract, by the answer's case. Assumes nothing.
use Rattle.std.specs.Prelude.{Ok, Err}
use Rattle.load_file.proofs.Printing.{printed_as}
use Rattle.load_file.proofs.print_file.Goals as goal

pub returns-in-Ok-clause-result_after : goal.returns-in-Ok-clause-result_after
returns-in-Ok-clause-result_after c = (printed_as _ _ c.requires _ (Ok c.in-Ok.n) c.in-Ok.ensures).0

pub returns-in-Ok-clause-upper_bound : goal.returns-in-Ok-clause-upper_bound
returns-in-Ok-clause-upper_bound c = (printed_as _ _ c.requires _ (Ok c.in-Ok.n) c.in-Ok.ensures).1

pub returns-in-Err-clause-result_after : goal.returns-in-Err-clause-result_after
returns-in-Err-clause-result_after c =
    let p = printed_as _ _ c.requires _ (Err c.in-Err.refusal) c.in-Err.ensures in
    rw (c.number.ensures, p.0, p.1) at c.refused_line.ensures.result_after
