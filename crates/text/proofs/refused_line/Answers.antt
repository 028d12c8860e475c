-- `text::refused_line` meets its contract: each call puts the next part of the line. Assumes nothing.
use Rattle.std.proofs.Common.{rules, arith, refl}
use Rattle.text.specs.Text.{refused_line}
use Rattle.text.specs.Writing.{wrote_both, wrote_front}
use Rattle.text.specs.Laws.{refused_length}
use Rattle.text.proofs.refused_line.Goals as goal

pub returns-clause-result_after : goal.returns-clause-result_after
unfolding refused_line
returns-clause-result_after c =
    wrote_front (wrote_both c.write_bytes.ensures (wrote_both (rw c.from.ensures at c.write_field.ensures) c.write_byte.ensures)) refl refl (search rules)
    (omega (arith, refused_length c.args.n (omega arith)))
