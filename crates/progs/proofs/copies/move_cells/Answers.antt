use Rattle.progs.proofs.CopyLaws.{pasted_on}
use Rattle.progs.proofs.copies.move_cells.Goals as goal

pub loop-i-preserved : goal.loop-i-preserved
loop-i-preserved c = pasted_on _ _ _ _ _ _ _ c.requires.src_value c.requires.dst_value c.loop-i-test.true c.loop-i.invariant
