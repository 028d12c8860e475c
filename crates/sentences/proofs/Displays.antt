-- The two ways in which a sentence is answered, as the code has them. Assumes nothing.
use Rattle.std.specs.Prelude.{Ok, Err}
use Rattle.std.proofs.Common.{◌≡◌, ℕ, ◌≤◌, ◌<◌, List, length, sym, ap, ◌∙◌}
use Rattle.definition.specs.declared.refusal.Refusal.TheVariants.{LentTooShort}
use Rattle.definition.specs.Written.{outcome_of}
use Rattle.text.specs.Output.{Output, output, at_front}
use Rattle.sentences.specs.Sentence.{Five, sentence, displayed}
use Rattle.sentences.proofs.Laws.{answers_12, answers_length}

module _ (x : Five) (display : List ℕ) where
  pub short_refused : length display < 120 → outcome_of (Err LentTooShort) display ≡ displayed x display
  short_refused h = sym (answers_12 x display h)

  pub front_displayed : {b : List ℕ} {r : ℕ} → 120 ≤ length display → output b r ≡ at_front (sentence x) display → outcome_of (Ok r) b ≡ displayed x display
  front_displayed h e = ap (λ (o : Output). outcome_of (Ok o.next) o.bytes) e ∙ sym (answers_length x display h)
