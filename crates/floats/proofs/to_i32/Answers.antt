use Rattle.std.proofs.Common.{le-leb}
use borrow.Author.Tests.{lt-leb}
use Rattle.floats.proofs.Whole.{small, n_lt, minus_fits, below, above}
use Rattle.floats.proofs.to_i32.Goals as goal

pub returns-then-e-lt127 : goal.returns-then-e-lt127
returns-then-e-lt127 c = small c.args.x c.if-e-lt127.true

pub overflow_cast-n : goal.overflow_cast-n
overflow_cast-n c = record { sfits = n_lt c.args.x c.if-e-lt127.false c.if-e-ge158.false c.scaled_up.result c.scaled_up.ensures }

pub overflow_sub-result : goal.overflow_sub-result
overflow_sub-result c = minus_fits c.args.x c.if-e-lt127.false c.if-e-ge158.false c.scaled_up.result c.scaled_up.ensures

pub returns-then-x-ge2147483648 : goal.returns-then-x-ge2147483648
returns-then-x-ge2147483648 c = below c.args.x c.if-e-lt127.false c.if-e-ge158.false c.scaled_up.result c.scaled_up.ensures (le-leb 2147483648 c.args.x c.if-x-ge2147483648.true)

pub returns-else-x-ge2147483648 : goal.returns-else-x-ge2147483648
returns-else-x-ge2147483648 c = above c.args.x c.if-e-lt127.false c.if-e-ge158.false c.scaled_up.result c.scaled_up.ensures (lt-leb 2147483648 c.args.x c.if-x-ge2147483648.false)
