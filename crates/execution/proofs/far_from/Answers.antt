use Rattle.std.proofs.Common.{arith}
use Rattle.std.proofs.Math.Facts.{to_z-of_z}
use Rattle.execution.proofs.Distances.{jumped}
use Rattle.execution.proofs.far_from.Goals as goal

pub overflow_add-result : goal.overflow_add-result
overflow_add-result c =
    let sum = jumped c.args.k c.args.by _ (omega arith) (omega arith) c.distance.ensures in
    rw sum.0 sum.1

pub returns : goal.returns
returns c =
    let sum = jumped c.args.k c.args.by _ (omega arith) (omega arith) c.distance.ensures in
    rw sum.0 (to_z-of_z sum.1)
