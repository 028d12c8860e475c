-- `load_file::numbers::read_number` meets its contract: each turn reads one digit more, and the loop ends at what is none or at the line's end. Assumes nothing.
use Rattle.std.proofs.Common.{◌≡◌, ℕ, ◌<◌, ◌≤◌, List, true, false, length, get_or, sym, ◌∙◌, arith}
use Rattle.load_file.specs.Numbers.{is_digit}
use Rattle.load_file.proofs.Reading.{rest_length, rest_byte, one_digit, no_digit, all_read}
use Rattle.load_file.proofs.numbers.read_number.Goals.{else-loop-digit-test, then-loop-digit-test+then-not-is_ascii_digit}
use Rattle.load_file.proofs.numbers.read_number.Goals as goal

pub loop-digit-preserved : goal.loop-digit-preserved
loop-digit-preserved c =
    let line' : List ℕ = c.args.line.now in
    let k = c.loop-digit.invariant in
    let here = rest_byte line' c.args.from c.loop-digit.digit-index k.place in
    let before_end : c.loop-digit.next < length line' = omega (arith, rest_length line' c.args.from, c.loop-digit-test.true, k.place) in
    let digit : is_digit (get_or line' c.loop-digit.next 0) ≡ true = rw here at (sym c.is_ascii_digit.ensures.value ∙ c.if-not-is_ascii_digit.false) in
    record {
      place = omega (arith, k.place);
      within = omega (arith, before_end);
      left = rw (c.with_digit-v.ensures, here) (one_digit line' c.loop-digit.v c.loop-digit.next before_end digit ∙ k.left);
    }

pub returns : goal.returns
returns c =
    let line' : List ℕ = c.args.line.now in
    let k = c.loop-digit.invariant in
    elim c.loop-digit-test.branch [
      | else-loop-digit-test w ↦
          let past : length line' ≤ c.loop-digit.next = omega (arith, rest_length line' c.args.from, w.loop-digit-test.false, k.place, c.requires) in
          (rw c.in_32_bits.ensures (sym (all_read line' c.loop-digit.v c.loop-digit.next past) ∙ k.left), k.within)
      | then-loop-digit-test+then-not-is_ascii_digit w ↦
          let before_end : c.loop-digit.next < length line' = omega (arith, rest_length line' c.args.from, w.loop-digit-test.true, k.place) in
          let here = rest_byte line' c.args.from c.loop-digit.digit-index k.place in
          let none : is_digit (get_or line' c.loop-digit.next 0) ≡ false = rw here at (sym w.is_ascii_digit.ensures.value ∙ w.if-not-is_ascii_digit.true) in
          (rw c.in_32_bits.ensures (sym (no_digit line' c.loop-digit.v c.loop-digit.next before_end none) ∙ k.left), k.within)
    ]
