use Rattle.std.proofs.Common.{arith}
use Rattle.std.proofs.Math.Facts.{to_z-of_z}
use Rattle.functions.proofs.Signs.{jumped}
use Rattle.functions.proofs.fetch.jump.Goals as goal

pub overflow_add-result : goal.overflow_add-result
overflow_add-result c =
    let sum = jumped c.args.k c.args.by _ (omega arith) (omega arith) c.signed.ensures in
    rw sum.0 sum.1

pub returns : goal.returns
returns c =
    let sum = jumped c.args.k c.args.by _ (omega arith) (omega arith) c.signed.ensures in
    rw sum.0 (to_z-of_z sum.1)
