-- `text::show_line` meets its contract: each call puts the next part of the line. Assumes nothing.
use Rattle.std.proofs.Common.{rules, arith, refl, to_z-of_z, w64, SFits}
use Rattle.text.specs.Text.{show_line}
use Rattle.text.specs.Writing.{wrote_same, wrote_both, wrote_front}
use Rattle.text.specs.Laws.{show_length}
use Rattle.text.proofs.show_line.Goals as goal

pub returns-clause-result_after : goal.returns-clause-result_after
unfolding show_line
returns-clause-result_after c =
    let fits : SFits w64 c.args.line.pc = search rules in
    let l = c.args.line in
    let short = show_length l.answer l.count l.pc l.function l.depth l.saved l.c1 l.c2 l.c3 (omega (arith, c.outcome_detail.ensures)) (omega arith) fits.sfits (omega arith) (omega arith) (omega arith) in
    wrote_front
    (wrote_same
    (wrote_both c.write_word.ensures
    (wrote_both c.write_field.ensures
    (wrote_both c.write_field-2.ensures
    (wrote_both c.write_byte.ensures
    (wrote_both c.write_signed.ensures
    (wrote_both c.write_field-3.ensures (wrote_both c.write_field-4.ensures (wrote_both c.write_field-5.ensures c.write_cells.ensures))))))))
    (rw (c.from.ensures, c.from-2.ensures, c.outcome_detail.ensures, to_z-of_z fits) refl))
    refl refl (search rules) (omega (arith, short, c.requires))
