use Rattle.std.proofs.Common.{◌-◌}
use Rattle.progs.proofs.AbandonLaws.{Unwinding}
use Rattle.progs.proofs.ExecutionContext.unwind.Given as goal

abbrev pub invariant-loop : goal.invariant-loop
invariant-loop l = Unwinding l.file l.target (l.end - l.counter) l.store l.initial.self l.self l.initial.cells l.cells
