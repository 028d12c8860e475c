-- The definition by what an operation answered: a load, an entry, and a run that follows.
use Rattle.std.proofs.Common.{◌≡◌, ap, ◌∙◌, sym, ℕ, ◌≤◌, ◌<◌, List, length, pos}
use Rattle.std.proofs.lemmas.Bool.{le-leb, lt-leb}
use Rattle.definition.specs.declared.RunAnswer.TheVariants.{Refused}
use Rattle.definition.specs.File.{standard}
use Rattle.definition.specs.Checks.{Checked, refused, accepted}
use Rattle.definition.specs.Machine.{Program, Config, Ran}
use Rattle.definition.specs.Load.{load, program_of}
use Rattle.definition.specs.Operations.{host_enter, run}
use Rattle.definition.specs.Answers.{Answer, Outcome, outcome, load_outcome}
use Rattle.text.specs.Output.{Output, at_front}
use Rattle.shown.specs.Shown.{printed, at_front_of, after_entry, entered_and_run, Shown, of_run, of_refusal, after_load, shown}

abbrev answering : Answer → Config → Outcome
answering a c = record { answer = a; config = c }

its_answer : {o p : Outcome} → o ≡ p → o.answer ≡ p.answer
its_answer h = ap (λ (o : Outcome). o.answer) h

its_config : {o p : Outcome} → o ≡ p → o.config ≡ p.config
its_config h = ap (λ (o : Outcome). o.config) h

unlike : (n : ℕ) → Answer.Refused n ≡ Answer.Accepted → ⊥
unlike n e = cc

-- ---- an entry: c' is the configuration after it

module _ (P : Program) (c c' : Config) where
  pub entry_refused : (n : ℕ) → answering (Answer.Refused n) c' ≡ outcome c (host_enter P (pos 1) c) → record { answer = Refused n; count = 0; config = c' } ≡ entered_and_run P c
  unfolding entered_and_run
  entry_refused n e = by (host_enter P (pos 1) c) e
    where
      by : (x : Checked Config) → answering (Answer.Refused n) c' ≡ outcome c x → record { answer = Refused n; count = 0; config = c' } ≡ after_entry P c x
      by (refused k) h = let number : n ≡ k = cc (its_answer h) in rw (number, its_config h)
      by (accepted d) h = absurd (unlike n (its_answer h))

  pub entry_accepted : (r : Ran) → answering Answer.Accepted c' ≡ outcome c (host_enter P (pos 1) c) → r ≡ run P (pos 0) (pos 99999) c' → r ≡ entered_and_run P c
  unfolding entered_and_run
  entry_accepted r e f = by (host_enter P (pos 1) c) e
    where
      by : (x : Checked Config) → answering Answer.Accepted c' ≡ outcome c x → r ≡ after_entry P c x
      by (refused k) h = absurd (unlike k (sym (its_answer h)))
      by (accepted d) h = f ∙ ap (run P (pos 0) (pos 99999)) (its_config h)

-- ---- a load: c is the configuration after it

module _ (file cells saved entities : List ℕ) where
  pub too_long : (n : ℕ) → n ≡ 1 → 65536 < length file → of_refusal n cells saved entities ≡ shown file cells saved entities
  unfolding shown
  too_long n s h = rw (s, lt-leb (length file) 65536 h)

  module _ (few : length file ≤ 65536) (c : Config) where
    loaded : (s : Shown) → s ≡ after_load (program_of file) cells saved entities (load standard file (pos 0) cells saved entities) → s ≡ shown file cells saved entities
    unfolding shown
    loaded s h = h ∙ rw (le-leb (length file) 65536 few)

    pub load_refused : (n m : ℕ)
        → n ≡ m
        → answering (Answer.Refused m) c ≡ load_outcome cells saved entities (load standard file (pos 0) cells saved entities)
        → of_refusal n c.cells c.saved c.entities ≡ shown file cells saved entities
    load_refused n m s e = loaded _ (by (load standard file (pos 0) cells saved entities) e)
      where
        by : (x : Checked Config) → answering (Answer.Refused m) c ≡ load_outcome cells saved entities x
            → of_refusal n c.cells c.saved c.entities ≡ after_load (program_of file) cells saved entities x
        by (refused k) h = let number : n ≡ k = cc (its_answer h) in rw (number, its_config h)
        by (accepted d) h = absurd (unlike m (its_answer h))

    pub load_accepted : (r : Ran)
        → answering Answer.Accepted c ≡ load_outcome cells saved entities (load standard file (pos 0) cells saved entities)
        → r ≡ entered_and_run (program_of file) c
        → of_run r ≡ shown file cells saved entities
    load_accepted r e f = loaded _ (by (load standard file (pos 0) cells saved entities) e)
      where
        by : (x : Checked Config) → answering Answer.Accepted c ≡ load_outcome cells saved entities x → of_run r ≡ after_load (program_of file) cells saved entities x
        by (refused k) h = absurd (unlike k (sym (its_answer h)))
        by (accepted d) h = ap of_run (f ∙ ap (entered_and_run (program_of file)) (its_config h))

-- ---- a line in a buffer

pub prints : {out : Output} (line : List ℕ) (s t : Shown) → out ≡ at_front s.text line → s ≡ t → printed out s.cells s.saved s.entities ≡ at_front_of line t
prints line s t e h = rw (e, h)
