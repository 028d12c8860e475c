-- A run by turns: what is left of it, from where it is, gives what all of it gives from the start. Assumes nothing.
use Rattle.std.specs.Prelude.{ℕ, suc, ◌+◌, ◌-◌, ◌<◌, ◌≤◌, List, Option, Some, None, Result, Ok, Err}
use Rattle.std.proofs.Common.{◌≡◌, sym, ◌∙◌, ap, arith, eq-eqb, ne_eqb}
use Rattle.definition.specs.declared.Handover.{Handover}
use Rattle.definition.specs.declared.refusal.Refusal.{Refusal}
use Rattle.definition.specs.declared.RunAnswer.{RunAnswer}
use Rattle.definition.specs.declared.RunAnswer.TheVariants as answers
use Rattle.definition.specs.Refusals.{number}
use Rattle.definition.specs.Machine.{Config, Program, Stepped, completed, refused_step, handed_step, step, Ran, run_as, run_for}
use Rattle.definition.specs.Answers.{StatementOutcome, statement_outcome}
use Rattle.progs.specs.declared.ExecutionContext.{ExecutionContext}
use Rattle.progs.specs.Contexts.{config}
use Rattle.server.specs.declared.Ran as code
use Rattle.server.specs.Stepping.{step_answer, stepping_of, ran_of, ran_as}

abbrev pub plus : ℕ → Ran → Ran
plus n r = record { answer = r.answer; count = n + r.count; config = r.config }

abbrev pub ran : RunAnswer → ℕ → Config → Ran
ran a n c = record { answer = a; count = n; config = c }

-- after `count` of at most `limit` statements the run is at c
pub record RunLeft (P : Program) (limit target : ℕ) (c₀ c : Config) (count : ℕ) : Type 0 where
  pub most : count ≤ limit
  pub gives : plus count (run_for P (limit - count) target c) ≡ run_for P limit target c₀

same_count : (a : RunAnswer) (n m : ℕ) (c : Config) → n ≡ m → ran a n c ≡ ran a m c
same_count a n m c e = ap (λ (k : ℕ). ran a k c) e

pub run_start : (P : Program) (limit target : ℕ) (c : Config) → RunLeft P limit target c c 0
run_start P limit target c =
    let a : limit - 0 ≡ limit = omega arith in
    let r : Ran = run_for P limit target c in
    record { most = omega arith; gives = rw a (same_count r.answer (0 + r.count) r.count r.config (omega arith)) }

pub run_spent : (P : Program) (limit target : ℕ) (c₀ c : Config) (count : ℕ) → limit ≤ count → RunLeft P limit target c₀ c count
    → ran answers.Spent count c ≡ run_for P limit target c₀
unfolding run_for
run_spent P limit target c₀ c count h g =
    let a : limit - count ≡ 0 = omega arith in
    same_count answers.Spent count (count + 0) c (omega arith) ∙ (rw a at g.gives)

module _ (P : Program) (limit target : ℕ) (c₀ c : Config) (count : ℕ) (g : RunLeft P limit target c₀ c count) (h : count < limit) where
  more : Config → Ran
  more c' = run_for P (limit - (count + 1)) target c'

  -- this turn, by what the statement does
  turn : (x : Stepped) → step P c ≡ x → plus count (run_as x target c more) ≡ run_for P limit target c₀
  unfolding run_for more
  turn x is =
      let a : limit - count ≡ suc (limit - (count + 1)) = omega arith in
      ap (λ (y : Stepped). plus count (run_as y target c (λ c'. run_for P (limit - (count + 1)) target c'))) (sym is) ∙ (rw a at g.gives)

  -- ---- by what the code's step answers

  module _ (r : Result (Option Handover) Refusal) (y : ExecutionContext) (cells saved entities : List ℕ) (q : stepping_of r y cells saved entities ≡ statement_outcome c (step P c)) where
    abbrev there : Config
    there = config y cells saved entities

    stays : (e : Refusal) → r ≡ Err e → (step P c ≡ refused_step (number e)) × (there ≡ c)
    stays e is = by (step P c) (ap (λ (o : StatementOutcome). o.answer) (rw is at q)) (ap (λ (o : StatementOutcome). o.config) q)
      where
        by : (s : Stepped) → step_answer (Err e) ≡ (statement_outcome c s).answer → there ≡ (statement_outcome c s).config → (s ≡ refused_step (number e)) × (there ≡ c)
        by (completed c') a k = cc
        by (refused_step n) a k = (let s : number e ≡ n = cc in ap refused_step (sym s), k)
        by (handed_step v) a k = cc

    hands : (v : Handover) → r ≡ Ok (Some v) → (step P c ≡ handed_step v) × (there ≡ c)
    hands v is = by (step P c) (ap (λ (o : StatementOutcome). o.answer) (rw is at q)) (ap (λ (o : StatementOutcome). o.config) q)
      where
        by : (s : Stepped) → step_answer (Ok (Some v)) ≡ (statement_outcome c s).answer → there ≡ (statement_outcome c s).config → (s ≡ handed_step v) × (there ≡ c)
        by (completed c') a k = cc
        by (refused_step n) a k = cc
        by (handed_step w) a k = (let s : v ≡ w = cc in ap handed_step (sym s), k)

    completes : r ≡ Ok None → step P c ≡ completed there
    completes is = by (step P c) (ap (λ (o : StatementOutcome). o.answer) (rw is at q)) (ap (λ (o : StatementOutcome). o.config) q)
      where
        by : (s : Stepped) → step_answer (Ok None) ≡ (statement_outcome c s).answer → there ≡ (statement_outcome c s).config → s ≡ completed there
        by (completed c') a k = ap completed (sym k)
        by (refused_step n) a k = cc
        by (handed_step w) a k = cc

    pub run_refused : (e : Refusal) → r ≡ Err e → (x : code.Ran) → x ≡ ran_as y (answers.Refused (number e)) count → ran_of x cells saved entities ≡ run_for P limit target c₀
    run_refused e is x k =
        let s = stays e is in
        rw (k, s.1) (same_count (answers.Refused (number e)) count (count + 0) c (omega arith) ∙ turn _ s.0)

    pub run_handed : (v : Handover) → r ≡ Ok (Some v) → (x : code.Ran) → x ≡ ran_as y (answers.HandedOver v) count → ran_of x cells saved entities ≡ run_for P limit target c₀
    run_handed v is x k =
        let s = hands v is in
        rw (k, s.1) (same_count (answers.HandedOver v) count (count + 0) c (omega arith) ∙ turn _ s.0)

    pub run_ended : r ≡ Ok None → y.depth ≡ target → (x : code.Ran) → x ≡ ran_as y answers.Ended (count + 1) → ran_of x cells saved entities ≡ run_for P limit target c₀
    run_ended is d x k =
        rw k (same_count answers.Ended (count + 1) (count + (0 + 1)) there (omega arith) ∙ (rw (eq-eqb y.depth target d) at (turn (completed there) (completes is))))

    pub run_again : r ≡ Ok None → (y.depth ≡ target → ⊥) → RunLeft P limit target c₀ there (count + 1)
    unfolding more
    run_again is d =
        let o : Ran = run_for P (limit - (count + 1)) target there in
        record {
          most = omega arith;
          gives =
              same_count o.answer (count + 1 + o.count) (count + (o.count + 1)) o.config (omega arith)
              ∙ (rw (ne_eqb y.depth target d) at (turn (completed there) (completes is)));
        }

-- ---- what the check takes

pub ruleset runs = (run_start, run_spent, run_again)
