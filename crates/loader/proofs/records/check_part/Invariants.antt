use Rattle.std.proofs.Common.{◌≡◌}
use Rattle.loader.proofs.Each.{row}
use Rattle.loader.proofs.records.check_part.Given as goal

abbrev pub invariant-loop-bytes : goal.invariant-loop-bytes
invariant-loop-bytes g l =
    let r = g.R.FromBytes in
    let decides = row (g.R.Record.conditions l.strings) r.read_at r.SIZE in
    record { size : l.bytes-iterator.size ≡ r.SIZE; rest : decides l.bytes-iterator.rest.now ≡ decides l.part }
