-- LAWS OF OUTCOME SENTENCES (document 02, R-8): the five are worked out from every line; how long a line can be; what the operation answers and leaves.
use Rattle.std.specs.Prelude.{ℕ, ◌+◌, ◌^◌, ◌≤◌, ◌<◌, ◌≡◌, refl, List, ◌++◌, ℤ, length, take, drop}
use Rattle.std.proofs.Common.{sym, ap, ◌∙◌, le-leb, lit≤, take_at}
use native.Mathlib.Omega.{arith}
use Rattle.std.proofs.lemmas.Bool.{lt-leb}
use Rattle.std.proofs.Math.ListN.{length-append}
use Rattle.definition.specs.declared.RunAnswer.{RunAnswer}
use Rattle.definition.specs.Checks.{judge, refused, accepted, guard}
use Rattle.definition.specs.Answers.{Word, ended, spent, completed_word, refused_word, builtin, opcode, letters}
use Rattle.definition.specs.Machine.{Ran}
use Rattle.text.specs.Text.{ascii, decimal, show_line}
use Rattle.text.specs.Laws.{decimal_10, decimal_20, signed_20, word_7}
use Rattle.text.specs.ReadBack.{Above, Shown, read_line}
use Rattle.text.proofs.ReadBack.{above_both, above_less, tested, decimal_above, signed_above, word_above, decimal_back, signed_back, word_back, up_to_back, past_back, show_back}
use Rattle.sentences.specs.Sentence.{Five, five, five_of, five_after, sentence, read_sentence, displayed}
use Rattle.sentences.specs.Laws.{Fits}

-- ---- "The five can be worked out from the line"

above_44 : (n : ℕ) → Above 44 (decimal n)
above_44 n = above_less (omega arith) (decimal_above n)

above_46 : (n : ℕ) → Above 46 (decimal n)
above_46 n = above_less (omega arith) (decimal_above n)

-- of any word, and of numbers of any size
pub sentence_back : (x : Five) → read_sentence (sentence x) ≡ x
unfolding sentence
sentence_back x =
    simp (
      past_back (word_above x.word),
      past_back (above_44 x.detail),
      past_back (above_44 x.count),
      past_back (signed_above x.position),
      up_to_back (word_above x.word),
      up_to_back (above_44 x.detail),
      up_to_back (above_44 x.count),
      up_to_back (signed_above x.position),
      up_to_back (above_46 x.function),
      word_back,
      decimal_back,
      signed_back,
    )

-- so different fives have different lines
pub sentence_tells : (x y : Five) → sentence x ≡ sentence y → x ≡ y
sentence_tells x y e = sym (sentence_back x) ∙ ap read_sentence e ∙ sentence_back y

-- "with the show program's outcome word": what a run's line says is what the first five fields of the show program's line say
pub as_shown : (r : Ran) (depth saved c1 c2 c3 : ℕ) → c1 < 2 ^ 32 → c2 < 2 ^ 32 → c3 < 2 ^ 32
    → let s = read_line (show_line r.answer r.count r.config.state.pc r.config.state.function depth saved c1 c2 c3) in
    five s.word s.detail s.count s.position s.function ≡ read_sentence (sentence (five_after r))
as_shown r depth saved c1 c2 c3 h1 h2 h3 =
    ap (λ (s : Shown). five s.word s.detail s.count s.position s.function)
    (show_back r.answer r.count r.config.state.pc r.config.state.function depth saved c1 c2 c3 h1 h2 h3)
    ∙ sym (sentence_back (five_after r))

-- ---- "at most 120 bytes"

word_9 : (w : Word) → length (letters w) ≤ 9
word_9 ended = lit≤ tt
word_9 spent = lit≤ tt
word_9 completed_word = lit≤ tt
word_9 refused_word = lit≤ tt
word_9 builtin = lit≤ tt
word_9 opcode = lit≤ tt

module _ (x : Five) (fits : Fits x) where
  pub sentence_length : length (sentence x) ≤ 109 + length (letters x.word)
  unfolding sentence
  sentence_length =
      simp length-append
      (omega (
        arith,
        decimal_10 fits.detail,
        decimal_10 fits.count,
        signed_20 x.position fits.position,
        decimal_20 fits.function,
      ))

  pub at_most_120 : length (sentence x) ≤ 120
  at_most_120 = omega (arith, sentence_length, word_9 x.word)

-- of a run's outcome at most 116, which `Examples: longest` has
pub at_most_116 : (answer : RunAnswer) (count : ℕ) (position : ℤ) (function : ℕ) → Fits (five_of answer count position function)
    → length (sentence (five_of answer count position function)) ≤ 116
at_most_116 answer count position function fits = omega (arith, sentence_length (five_of answer count position function) fits, word_7 answer)

-- "without a line end": no byte is below that of a space
pub no_line_end : (x : Five) → Above 31 (sentence x)
unfolding sentence
no_line_end x =
    above_both (tested 31 (ascii "Run ") refl)
    (above_both (above_less (omega arith) (word_above x.word))
    (above_both (tested 31 (ascii ", detail ") refl)
    (above_both (number x.detail)
    (above_both (tested 31 (ascii ", statements ") refl)
    (above_both (number x.count)
    (above_both (tested 31 (ascii ", position ") refl)
    (above_both (above_less (omega arith) (signed_above x.position))
    (above_both (tested 31 (ascii ", function ") refl)
    (above_both (number x.function)
    (tested 31 (ascii ".") refl))))))))))
  where
    number : (n : ℕ) → Above 31 (decimal n)
    number n = above_less (omega arith) (decimal_above n)

-- ---- what is answered, and the display buffer after it

module _ (x : Five) (display : List ℕ) where
  -- "A display buffer under 120 bytes takes the existing refusal 12 and is untouched"
  pub answers_12 : length display < 120 → displayed x display ≡ record { answer = refused 12; output = display }
  unfolding displayed guard judge
  answers_12 h = rw (lt-leb 120 (length display) h)

  -- "its length is given"
  pub answers_length : 120 ≤ length display
      → displayed x display ≡ record { answer = accepted (length (sentence x)); output = sentence x ++ drop (length (sentence x)) display }
  unfolding displayed guard judge
  answers_length h = rw (le-leb 120 (length display) h)

  -- from so many bytes of the buffer the five are worked out
  pub display_back : 120 ≤ length display → read_sentence (take (length (sentence x)) (displayed x display).output) ≡ x
  display_back h = rw (answers_length h, take_at (sentence x)) (sentence_back x)
