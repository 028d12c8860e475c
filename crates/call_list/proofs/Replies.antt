-- What a call leaves, by what its operation answered.
use Rattle.std.proofs.Common.{ℕ, ◌≡◌, refl, sym, ◌∙◌, ap, List, ℤ, Result}
use Rattle.definition.specs.declared.refusal.Refusal.{Refusal}
use Rattle.definition.specs.Checks.{Checked, refused, accepted}
use Rattle.definition.specs.Refusals.{checked}
use Rattle.definition.specs.Machine as machine
use Rattle.definition.specs.Machine.{Program, Config}
use Rattle.definition.specs.Operations.{statement, run, raw_read}
use Rattle.definition.specs.Answers.{Answer, Outcome, answer_of, outcome, kept, StatementOutcome, statement_outcome, completed_word}
use Rattle.definition.specs.Calls.{Call, steps, runs, reads, after}
use Rattle.progs.specs.declared.ExecutionContext.{ExecutionContext}
use Rattle.progs.specs.Contexts.{config, outcome_of}
use Rattle.server.specs.declared.Stepped.{Stepped}
use Rattle.server.specs.declared.Ran.{Ran}
use Rattle.server.specs.Stepping.{stepped_of, ran_of}
use Rattle.call_list.specs.declared.Replied.{Replied}
use Rattle.call_list.specs.Encoding.{Reply, reply_of, refused_reply, answer_reply, checked_reply, read_reply, statement_reply, run_reply, reply, answering, replied_of, after_call}

abbrev answered_reply : Answer → Reply
answered_reply Answer.Accepted = reply_of completed_word 0 0
answered_reply (Answer.Refused n) = refused_reply n

by_answer : {A : Type 0} (x : Checked A) → answer_reply x ≡ answered_reply (answer_of x)
by_answer (refused n) = refl
by_answer (accepted a) = refl

module _ (P : Program) (c : Config) (r : Replied) (cells saved entities : List ℕ) where
  done : (x : ExecutionContext) (given : Reply) (e : r ≡ answering x given) → replied_of r cells saved entities ≡ record { reply = given; config = config x cells saved entities }
  done x given e = ap (λ (z : Replied). replied_of z cells saved entities) e

  -- an entry, carry on, abandonment or write
  pub answered : (k : Call) (w : Checked Config) (x : ExecutionContext) (a : Result (Unit {0}) Refusal) → reply P k c ≡ answer_reply w → after P k c ≡ kept c w
      → r ≡ answering x (checked_reply a) → outcome_of a x cells saved entities ≡ outcome c w → replied_of r cells saved entities ≡ after_call P k c
  answered k w x a p q e o =
      let same : checked_reply a ≡ reply P k c = by_answer (checked a) ∙ ap (λ (z : Outcome). answered_reply z.answer) o ∙ sym (by_answer w) ∙ sym p in
      let left : config x cells saved entities ≡ after P k c = ap (λ (z : Outcome). z.config) o ∙ sym q in
      rw (← same, ← left) (done x (checked_reply a) e)

  pub read : (a : ℤ) (x : ExecutionContext) (v : Result ℕ Refusal) → config x cells saved entities ≡ c → r ≡ answering x (read_reply v) → checked v ≡ raw_read P a c
      → replied_of r cells saved entities ≡ after_call P (reads a) c
  unfolding reply after
  read a x v h e o = rw (← o, ← h) (done x (read_reply v) e)

  pub stepped : (s : Stepped) → r ≡ answering s.context (statement_reply s.answer) → stepped_of s cells saved entities ≡ statement_outcome c (statement P c) → replied_of r cells saved entities ≡ after_call P steps c
  unfolding reply after
  stepped s e o = done s.context (statement_reply s.answer) e ∙ ap (λ (z : StatementOutcome). record { reply = statement_reply z.answer; config = z.config }) o

  pub ran : (target limit : ℤ) (s : Ran) → r ≡ answering s.context (run_reply s.answer s.count) → ran_of s cells saved entities ≡ run P target limit c → replied_of r cells saved entities ≡ after_call P (runs target limit) c
  unfolding reply after
  ran target limit s e o = done s.context (run_reply s.answer s.count) e ∙ ap (λ (z : machine.Ran). record { reply = run_reply z.answer z.count; config = z.config }) o
