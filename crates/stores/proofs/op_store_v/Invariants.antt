use Rattle.std.proofs.Common.{◌≡◌}
use Rattle.stores.proofs.Stores.{copied}
use Rattle.stores.proofs.op_store_v.Given as goal

abbrev pub invariant-loop-i : goal.invariant-loop-i
invariant-loop-i l = l.cells ≡ copied l.at.a l.at.b l.initial.cells l.i
