-- `sentences::compose_five` meets its contract: 12 where the display buffer is short, else each call writes the next part of the sentence. Assumes nothing.
use Rattle.std.proofs.Common.{◌≤◌, length, refl, rules, arith, to_z-of_z, w64, SFits}
use Rattle.definition.specs.Answers.{outcome_word}
use Rattle.text.specs.Writing.{wrote_same, wrote_both, wrote_front}
use Rattle.sentences.specs.Sentence.{Five, five, sentence}
use Rattle.sentences.proofs.Laws.{at_most_120}
use Rattle.sentences.proofs.Displays.{front_displayed}
use Rattle.sentences.proofs.compose_five.Goals as goal

pub returns : goal.returns
unfolding sentence
returns c =
    let fits : SFits w64 c.args.position = search rules in
    let x : Five = five (outcome_word c.args.answer) c.args.detail c.args.count c.args.position c.args.function in
    let short : length (sentence x) ≤ 120 = at_most_120 x (record { detail = omega arith; count = omega arith; position = fits.sfits; function = omega arith }) in
    front_displayed x _ c.if-display-lt-DISPLAY_LENGTH.false
    (wrote_front {xs = sentence x}
    (wrote_same
    (wrote_both c.write_bytes.ensures
    (wrote_both c.write_word.ensures
    (wrote_both c.write_named.ensures
    (wrote_both c.write_named-2.ensures
    (wrote_both c.write_bytes-2.ensures (wrote_both c.write_signed.ensures (wrote_both c.write_named-3.ensures c.write_byte.ensures)))))))
    (rw (c.from.ensures, c.from-2.ensures, to_z-of_z fits) refl))
    refl refl (search rules) (omega (arith, short, c.if-display-lt-DISPLAY_LENGTH.false)))
