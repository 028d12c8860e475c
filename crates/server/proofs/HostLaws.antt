-- What a host is answered: a statement and a run, by the tests that decide it. Assumes nothing.
use Rattle.std.specs.Prelude.{ℕ, zero, suc, ◌≤◌, ◌<◌, List, Bool, true, false, not, ◌||◌, eqb, ltb, ℤ, pos, negsuc}
use Rattle.std.proofs.Common.{◌≡◌, refl, sym, ◌∙◌, arith, lt-ltb, le-ltb}
use Rattle.std.proofs.lemmas.Bool.Decides.{nat_tests}
use Rattle.definition.specs.declared.RunAnswer.TheVariants as answers
use Rattle.definition.specs.declared.StatementAnswer.TheVariants as statement
use Rattle.definition.specs.Checks.{Checked, refused, accepted, judge, decided, guard}
use Rattle.definition.specs.Statements.{place_of}
use Rattle.definition.specs.Machine as machine
use Rattle.definition.specs.Machine.{Program, Config, Stepped, completed, refused_step, handed_step, step, go_on, run_as, run_for}
use Rattle.definition.specs.Load.{program_with, program_of}
use Rattle.definition.specs.Operations as operations
use Rattle.definition.specs.Operations.{sound, natural, below, permitted, run_conditions, run_after, run}
use Rattle.definition.specs.Answers.{statement_outcome}
use Rattle.definition.proofs.PlaceLaws.{below_place, place_natural}
use Rattle.progs.specs.declared.ExecutionContext.{ExecutionContext}
use Rattle.progs.specs.Contexts.{config}
use Rattle.server.specs.declared.Bounds.{Bounds}
use Rattle.server.specs.declared.Ran.{Ran}
use Rattle.server.specs.Stepping.{stepped_of, statement_answer, ran_as, ran_of, bounds_conditions, bounds_of}

-- ---- the bounds of a run

permitted_place : (a : ℤ) (k : ℕ) → permitted a k ≡ not (eqb (place_of 0 a) 0 || ltb k (place_of 0 a))
permitted_place (pos n) k = grind (arith, nat_tests)
permitted_place (negsuc n) k = refl

module _ (target limit : ℤ) (k depth most : ℕ) (m : most ≡ place_of 0 limit) where
  abbrev Bounded : Checked Bounds → Type 0
  Bounded r = r ≡ guard (bounds_conditions target limit k depth) (bounds_of target limit)

  pub bounds_28 : (eqb most 0 || ltb k most) ≡ true → Bounded (refused 28)
  unfolding guard judge
  bounds_28 h = rw (permitted_place limit k, ← m, h)

  module _ (h : (eqb most 0 || ltb k most) ≡ false) (down : ℕ) (d : down ≡ place_of depth target) where
    pub bounds_29 : depth ≤ down → Bounded (refused 29)
    unfolding guard judge
    bounds_29 l = rw (permitted_place limit k, ← m, h, below_place depth target, ← d, le-ltb down depth l)

    pub bounds_fit : down < depth → Bounded (accepted (record { limit = most; target = down }))
    unfolding guard judge
    bounds_fit l =
        let to : natural target ≡ down = place_natural depth target (rw d at l) ∙ sym d in
        rw (permitted_place limit k, ← m, h, below_place depth target, ← d, lt-ltb down depth l, to)

-- the first engine reads from the file's bytes
pub file_room : (file : List ℕ) → (program_of file).room ≡ true
unfolding program_with
file_room file = refl

-- ---- a statement

module _ (P : Program) (x : ExecutionContext) (cells saved entities : List ℕ) where
  abbrev before : Config
  before = config x cells saved entities

  pub statement_13 : (n : ℕ) → n ≡ 13 → sound P before ≡ false → stepped_of (record { context = x; answer = statement.Refused n }) cells saved entities ≡ statement_outcome before (operations.statement P before)
  unfolding operations.statement
  statement_13 n e s = rw (s, e)

  pub statement_so : sound P before ≡ true → (target : ℕ) (o : machine.Ran) → o ≡ run_for P 1 target before
      → record { answer = statement_answer o.answer; config = o.config } ≡ statement_outcome before (operations.statement P before)
  unfolding operations.statement run_for
  statement_so s target o e = rw (e, s) (by (step P before))
    where
      next : Config → machine.Ran
      next c = run_for P 0 target c

      ended : (b : Bool) (c : Config) → record { answer = statement_answer (go_on b c next).answer; config = (go_on b c next).config } ≡ statement_outcome before (completed c)
      ended true c = refl
      ended false c = refl

      by : (r : Stepped) → record { answer = statement_answer (run_as r target before next).answer; config = (run_as r target before next).config } ≡ statement_outcome before r
      by (completed c) = ended (eqb c.state.depth target) c
      by (refused_step n) = refl
      by (handed_step h) = refl

-- ---- a run

module _ (P : Program) (target limit : ℤ) (x : ExecutionContext) (cells saved entities : List ℕ) where
  abbrev here : Config
  here = config x cells saved entities

  pub run_13 : (r : Ran) → sound P here ≡ false → r ≡ ran_as x (answers.Refused 13) 0 → ran_of r cells saved entities ≡ run P target limit here
  unfolding run run_conditions judge
  run_13 r s e = rw (s, e)

  module _ (s : sound P here ≡ true) where
    -- R-12: where the engine's buffer is too short
    pub run_37 : (r : Ran) → P.room ≡ false → r ≡ ran_as x (answers.Refused 37) 0 → ran_of r cells saved entities ≡ run P target limit here
    unfolding run run_conditions judge
    run_37 r room e = rw (s, room, e)

    module _ (room : P.room ≡ true) where
      checked : judge (run_conditions P target limit here) ≡ judge (bounds_conditions target limit x.settings.limit x.depth)
      unfolding run_conditions judge
      checked = rw (s, room)

      pub run_outside : (n : ℕ) → refused n ≡ guard (bounds_conditions target limit x.settings.limit x.depth) (bounds_of target limit)
          → (r : Ran) → r ≡ ran_as x (answers.Refused n) 0 → ran_of r cells saved entities ≡ run P target limit here
      unfolding run guard
      run_outside n q r e = rw (e, checked) (by _ q)
        where
          by : (j : ℕ) → refused n ≡ decided j (bounds_of target limit) → ran_of (ran_as x (answers.Refused n) 0) cells saved entities ≡ run_after j P (natural target) (natural limit) here
          by zero q = cc
          by (suc j) q = let same : n ≡ suc j = cc in rw same

      pub run_inside : (b : Bounds) → accepted b ≡ guard (bounds_conditions target limit x.settings.limit x.depth) (bounds_of target limit)
          → (o : machine.Ran) → o ≡ run_for P b.limit b.target here → o ≡ run P target limit here
      unfolding run guard
      run_inside b q o e = rw checked (by _ q)
        where
          by : (j : ℕ) → accepted b ≡ decided j (bounds_of target limit) → o ≡ run_after j P (natural target) (natural limit) here
          by zero q = let same : b ≡ bounds_of target limit = cc in e ∙ rw same
          by (suc j) q = cc

-- ---- what the check takes

pub ruleset bounds = (bounds_28, bounds_29, bounds_fit)
