-- WHAT COMPOSING A SENTENCE LEAVES AND ANSWERS (document 02, R-8), in numbers: the length where it is accepted, and the refusal's number, each 0 where there is
-- none.
use Rattle.std.specs.Prelude.{ℕ, ◌≡◌, refl, List, ℤ}
use Rattle.definition.specs.declared.RunAnswer.{RunAnswer}
use Rattle.definition.specs.declared.RunAnswer.TheVariants as run
use Rattle.definition.specs.declared.Handover.TheVariants.{Builtin, Opcode}
use Rattle.definition.specs.Checks.{Checked, refused, accepted}
use Rattle.definition.specs.Written.{WriteOutcome}
use Rattle.call_list.specs.Encoding.{run_reply}
use Rattle.sentences.specs.Sentence.{word_numbered, five_of, five_numbered, displayed}
use Rattle.host.specs.declared.display.WriteReply.{WriteReply}

abbrev pub write_reply : Checked ℕ → WriteReply
write_reply (accepted n) = record { length = n; refusal = 0 }
write_reply (refused n) = record { length = 0; refusal = n }

-- the answer, and the display buffer
pub record AfterSentence : Type 0 where
  pub reply : WriteReply
  pub display : List ℕ

abbrev pub display_of : WriteReply → List ℕ → AfterSentence
display_of r display = record { reply = r; display = display }

abbrev pub replied : WriteOutcome → AfterSentence
replied o = record { reply = write_reply o.answer; display = o.output }

abbrev pub after_sentence : ℕ → ℕ → ℕ → ℤ → ℕ → List ℕ → AfterSentence
after_sentence word detail count position function display = replied (displayed (five_numbered word detail count position function) display)

-- the numbers by which a run was answered give the five of its outcome
pub run_numbered : (a : RunAnswer) (count : ℕ) (position : ℤ) (function : ℕ)
    → let r = run_reply a count in five_numbered r.word r.detail r.count position function ≡ five_of a count position function
unfolding word_numbered
run_numbered run.Ended count position function = refl
run_numbered run.Spent count position function = refl
run_numbered (run.Refused n) count position function = refl
run_numbered (run.HandedOver (Builtin n)) count position function = refl
run_numbered (run.HandedOver (Opcode n)) count position function = refl
