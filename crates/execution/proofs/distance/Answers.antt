use Rattle.std.proofs.Common.{◌∙◌, arith, w64}
use Rattle.std.proofs.Math.Facts.{to_z-of_z, to_z_pos}
use Rattle.execution.proofs.Distances.{low, high, fits}
use Rattle.execution.proofs.distance.Goals as goal

pub returns-then-by-lt32768 : goal.returns-then-by-lt32768
returns-then-by-lt32768 c = to_z_pos w64 (omega arith) ∙ low _ (omega arith)

pub returns-else-by-lt32768 : goal.returns-else-by-lt32768
returns-else-by-lt32768 c = rw (to_z_pos w64 {n = c.args.by} (omega arith), high c.args.by (omega arith) (omega arith)) (to_z-of_z (fits _ (omega arith)))
