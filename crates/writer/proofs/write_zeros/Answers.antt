-- `writer::write_zeros` meets its contract: the part of the buffer becomes the zeros. Assumes nothing.
use Rattle.std.proofs.Common.{ℕ, replicate, refl, arith, ◌∙◌}
use Rattle.std.proofs.lemmas.List.{length-replicate}
use Rattle.text.specs.Writing.{wrote}
use Rattle.text.proofs.Copying.{part_put}
use Rattle.writer.proofs.write_zeros.Goals as goal

pub returns : goal.returns
returns c =
    wrote refl
    (part_put c.args.out.now.buf.now (replicate c.args.n 0) c.args.out.now.at c.requires (omega (arith, length-replicate {A = ℕ} c.args.n 0))
    (c.fill.ensures.after (λ y h. h) ∙ grind (arith, length-replicate)))
