-- What conditions make of an answer: those that refuse, by the refusal's number, and those that hold.
use Rattle.std.proofs.Common.{◌≡◌, ℕ, zero, suc, List, Ok, Err, refl}
use Rattle.definition.specs.declared.refusal.Refusal.{Refusal}
use Rattle.definition.specs.Checks.{Conditions, judge, refused, accepted, guard, decided}
use Rattle.definition.specs.Refusals.{number}
use Rattle.definition.proofs.RefusalLaws.{numbered}
use Rattle.definition.specs.Machine.{Config}
use Rattle.definition.specs.Answers.{outcome}
use Rattle.progs.specs.declared.ExecutionContext.{ExecutionContext}
use Rattle.progs.specs.Contexts.{config, outcome_of}

module _ {A : Type 0} (cs : Conditions) (a : A) where
  pub guard_number : (r : Refusal) → number r ≡ judge cs → guard cs a ≡ refused (number r)
  unfolding guard
  guard_number r e = rw (← e) (by (number r) (numbered r))
    where
      by : (n : ℕ) → (n ≡ 0 → ⊥) → decided n a ≡ refused n
      by zero z = absurd (z refl)
      by (suc n) z = refl

  pub guard_clear : 0 ≡ judge cs → guard cs a ≡ accepted a
  unfolding guard
  guard_clear e = rw (← e)

module _ (x : ExecutionContext) (cells saved entities : List ℕ) (cs : Conditions) (a : Config) where
  pub refused_outcome : (r : Refusal) → number r ≡ judge cs → outcome_of (Err r) x cells saved entities ≡ outcome (config x cells saved entities) (guard cs a)
  refused_outcome r e = rw (guard_number cs a r e)

  pub accepted_outcome : 0 ≡ judge cs → (y : ExecutionContext) (cells' saved' : List ℕ) → config y cells' saved' entities ≡ a → outcome_of (Ok tt) y cells' saved' entities ≡ outcome (config x cells saved entities) (guard cs a)
  accepted_outcome e y cells' saved' h = rw (guard_clear cs a e, h)
