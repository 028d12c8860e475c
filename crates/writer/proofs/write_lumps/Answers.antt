-- `writer::write_lumps` meets its contract: each call writes the next lump. Assumes nothing.
use Rattle.text.specs.Writing.{wrote_both}
use Rattle.writing_laws.specs.Lumps.{lumps_of}
use Rattle.writer.proofs.write_lumps.Goals as goal

pub returns : goal.returns
unfolding lumps_of
returns c =
    wrote_both c.write_lump.ensures
    (wrote_both c.write_lump-2.ensures
    (wrote_both c.write_lump-3.ensures
    (wrote_both (rw c.part.ensures at c.write_functions.ensures) (wrote_both c.write_lump-4.ensures c.write_lump-5.ensures))))
