use Rattle.std.proofs.Common.{◌-◌}
use Rattle.progs.proofs.AbandonLaws.{Checking}
use Rattle.progs.proofs.ExecutionContext.check_leavings.Given as goal

abbrev pub invariant-loop : goal.invariant-loop
invariant-loop l = Checking l.file l.target (l.end - l.counter) l.self l.context
