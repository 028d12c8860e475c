use Rattle.std.proofs.Common.{arith}
use Rattle.arithmetic.proofs.Arithmetic.{untyped}
use Rattle.arithmetic.proofs.check_operands.Goals as goal

pub returns-then-is_empty-x : goal.returns-then-is_empty-x
unfolding Rattle.typed.specs.Checking.first
returns-then-is_empty-x c =
    let passes = untyped c.args.globals.defs.now c.args.globals.count in
    grind (arith, passes c.args.x c.requires, passes c.args.y c.requires, passes c.args.z c.requires)
