-- Return on numbers, and what the context makes of it.
use Rattle.std.proofs.Common.{◌≡◌, ℕ, zero, suc, ◌-◌, ◌≤◌, ◌<◌, List, drop, true, false, refl, sym, ◌∙◌, ap, ltb-true, leb-true, Result, Ok, Err}
use Rattle.std.proofs.Math.Seq.{paste}
use Rattle.definition.specs.declared.refusal.Refusal.{Refusal}
use Rattle.definition.specs.declared.refusal.Refusal.TheVariants as refusal
use Rattle.definition.specs.Checks.{judge, Checked, refused, accepted}
use Rattle.definition.specs.Refusals.{number, refusal_in}
use Rattle.definition.specs.Machine.{Program, function_of, present, copied, successive, leave_conditions, left, return_conditions, returned}
use Rattle.definition.proofs.CheckLaws.{judge_passed}
use Rattle.definition.proofs.RefusalLaws.{numbered as never_zero}
use Rattle.progs.specs.declared.ExecutionContext.{ExecutionContext}
use Rattle.progs.specs.declared.calls.Locals.{Locals}
use Rattle.progs.specs.declared.calls.Leaving.{Leaving}
use Rattle.progs.specs.Contexts.{config, bare, range_of, outcome_of, after, return, left_context}
use Rattle.progs.specs.Numbers.{numbered_in, Returning, leaving_of, returning_as, returning}
use Rattle.progs.proofs.OutcomeLaws.{refused_outcome, accepted_outcome}
use Rattle.progs.proofs.NumberLaws.{number_of, number_checked}

-- a leaving looks at nothing but the function, the depth, the saved count and the file's count
pub leave_by_count : (P : Program) (x : ExecutionContext) (count : ℕ) → count ≡ x.file.globals.count
    → judge (leave_conditions P (bare (numbered_in x.current_function x.depth x.saved count))) ≡ judge (leave_conditions P (bare x))
unfolding leave_conditions
leave_by_count P x count e = rw e

module _ (P : Program) (a : ℕ) (x : ExecutionContext) (cells saved : List ℕ) where
  abbrev judged : ℕ
  judged = judge (return_conditions P a (bare x))

  refused_as : (r : Refusal) → number r ≡ judged → leaving_of (Err r) cells ≡ returning P a x cells saved
  unfolding returning
  refused_as r e = rw (← e) (by (number r) (never_zero r))
    where
      by : (n : ℕ) → (n ≡ 0 → ⊥) → record { leaving = refused n; cells = cells } ≡ returning_as n (function_of P x.current_function) a x.saved cells saved
      by zero z = absurd (z refl)
      by (suc n) z = refl

  pub returning_15 : present a 3 x.file.globals.count ≡ false → leaving_of (Err refusal.Address) cells ≡ returning P a x cells saved
  unfolding judge
  returning_15 p = refused_as refusal.Address (rw p)

  module _ (p : present a 3 x.file.globals.count ≡ true) where
    past : judged ≡ judge (leave_conditions P (bare x))
    unfolding judge
    past = rw p

    pub returning_refused : (r : Refusal) → number r ≡ judge (leave_conditions P (bare x)) → leaving_of (Err r) cells ≡ returning P a x cells saved
    returning_refused r e = refused_as r (rw past e)

    pub returning_done : (l : Locals) (cells₁ cells' : List ℕ) → 0 ≡ judge (leave_conditions P (bare x)) → l ≡ range_of (function_of P x.current_function)
        → cells₁ ≡ copied (successive 3 a 1) cells
        → cells' ≡ paste cells₁ l.start (drop (x.saved - l.count) saved) l.count
        → leaving_of (Ok (record { locals = l.count })) cells' ≡ returning P a x cells saved
    unfolding returning
    returning_done l cells₁ cells' z e c h = rw (past, ← z, h, c, e)

  pub return_by_count : (count : ℕ) → count ≡ x.file.globals.count
      → returning P a (numbered_in x.current_function x.depth x.saved count) cells saved ≡ returning P a x cells saved
  unfolding returning leave_conditions
  return_by_count count e = rw e

  module _ (r : Result Leaving Refusal) (cells' : List ℕ) (e : leaving_of r cells' ≡ returning P a x cells saved) where
    pub refusal_is : refusal_in r ≡ judged
    unfolding returning
    refusal_is = number_checked r ∙ ap (λ (z : Returning). number_of z.leaving) e ∙ by judged
      where
        by : (n : ℕ) → number_of (returning_as n (function_of P x.current_function) a x.saved cells saved).leaving ≡ n
        by zero = refl
        by (suc n) = refl

  -- a Return that is refused
  module _ (q : Refusal) (cells' : List ℕ) (e : leaving_of (Err q) cells' ≡ returning P a x cells saved) where
    kept : cells' ≡ cells
    unfolding returning
    kept = by judged (rw (← refusal_is (Err q) cells' e) (never_zero q)) (ap (λ (z : Returning). z.cells) e)
      where
        by : (n : ℕ) → (n ≡ 0 → ⊥) → cells' ≡ (returning_as n (function_of P x.current_function) a x.saved cells saved).cells → cells' ≡ cells
        by zero z b = absurd (z refl)
        by (suc n) z b = b

    pub refused_return : (entities : List ℕ) → outcome_of (Err q) x cells' saved entities ≡ after (config x cells saved entities) (return P a)
    unfolding leave_conditions
    refused_return entities = rw kept (refused_outcome x cells saved entities _ _ q (refusal_is (Err q) cells' e))

  -- one that is accepted
  module _ (r : Leaving) (cells' : List ℕ) (e : leaving_of (Ok r) cells' ≡ returning P a x cells saved) where
    pub clear : 0 ≡ judged
    clear = refusal_is (Ok r) cells' e

    gives : leaving_of (Ok r) cells' ≡ returning_as 0 (function_of P x.current_function) a x.saved cells saved
    unfolding returning
    gives = e ∙ ap (λ (n : ℕ). returning_as n (function_of P x.current_function) a x.saved cells saved) (sym clear)

    taken : r ≡ record { locals = (function_of P x.current_function).locals }
    taken = by (ap (λ (z : Returning). z.leaving) gives)
      where
        by : ◌≡◌ {A = Checked Leaving} (accepted r) (accepted (record { locals = (function_of P x.current_function).locals })) → r ≡ record { locals = (function_of P x.current_function).locals }
        by h = cc

    pub return_room : (0 < x.depth) × (r.locals ≤ x.saved)
    unfolding leave_conditions
    return_room =
        let h = judge_passed (return_conditions P a (bare x)) (sym clear) in
        let c : r.locals ≡ (function_of P x.current_function).locals = ap (λ (z : Leaving). z.locals) taken in
        (ltb-true _ _ h.1.0, rw c (leb-true _ _ h.1.1.0))

    pub returned_config : (entities : List ℕ) → config (left_context x r.locals) cells' saved entities ≡ returned P a (config x cells saved entities)
    unfolding left
    returned_config entities = rw taken (ap (λ (z : Returning). config (left_context x (function_of P x.current_function).locals) z.cells saved entities) gives)

    pub accepted_return : (entities : List ℕ) (y : ExecutionContext) → y ≡ left_context x r.locals → outcome_of (Ok tt) y cells' saved entities ≡ after (config x cells saved entities) (return P a)
    unfolding leave_conditions
    accepted_return entities y h =
        accepted_outcome x cells saved entities _ _ clear y cells' saved (ap (λ (w : ExecutionContext). config w cells' saved entities) h ∙ returned_config entities)
