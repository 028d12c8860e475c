use Rattle.std.proofs.Common.{refl, arith}
use Rattle.definition.specs.File.{records}
use Rattle.functions.proofs.Filling.{filled}
use Rattle.functions.proofs.parts.fill.Goals as goal

pub loop-i-init : goal.loop-i-init
unfolding records
loop-i-init g c = refl

pub loop-i-preserved : goal.loop-i-preserved
loop-i-preserved g c =
    let more = rw c.SIZE.ensures at c.loop-i-test.true in
    filled _ _ _ _ _ _ (omega (arith, c.requires)) c.loop-i.invariant (rw c.SIZE-in-loop-i.ensures at c.read.ensures)
