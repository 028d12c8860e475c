-- One statement: from what was done to the definition's step; and what check 13 establishes, kept. Assumes nothing.
use Rattle.std.specs.Prelude.{ℕ, zero, suc, ◌+◌, ◌<◌, List, length, Option, None, Result, Ok, Err, ℤ, pos, negsuc, ◌+ℤ◌}
use Rattle.std.proofs.Common.{◌≡◌, refl, sym, ap, ◌∙◌, arith, ltb-true}
use Rattle.definition.specs.declared.FileRecord.{FileRecord}
use Rattle.definition.specs.declared.Handover.{Handover}
use Rattle.definition.specs.declared.refusal.Refusal.{Refusal}
use Rattle.definition.specs.Checks.{Checked, refused, accepted, judge}
use Rattle.definition.specs.Refusals.{number}
use Rattle.definition.specs.File.{Contents, contents_at}
use Rattle.definition.specs.Load.{program_of}
use Rattle.definition.specs.Statements.{Entities, Does, next, puts, calls, returns, refuses, hands_over, or_refused, place_of, fetch_conditions, statement_at, execute, does_at}
use Rattle.definition.specs.Machine.{Program, Config, entities_of, entry_conditions, entered, enter, leave_conditions, left, as_step, step_as, step}
use Rattle.definition.specs.Answers.{Outcome, outcome, statement_outcome}
use Rattle.definition.proofs.CheckLaws.{judge_passed}
use Rattle.functions.specs.Laws.{lump_fitting, count_statements}
use Rattle.execution.specs.declared.Executed.{Executed}
use Rattle.execution.specs.declared.Executed.TheVariants as does
use Rattle.execution.specs.Execution.{Usable, UsableFields, Execution, executed, execution}
use Rattle.execution.specs.Lent.{entities_at}
use Rattle.progs.specs.declared.ExecutionContext.{ExecutionContext}
use Rattle.progs.specs.Contexts.{config, outcome_of, after, return, Within, AtStatement}
use Rattle.progs.proofs.DoesLaws.{does_here}
use Rattle.progs.proofs.StateLaws.{own_within}
use Rattle.server.specs.Stepping.{stepping_of, step_by, CallAt}

-- ---- from what was done to the step

module _ (P : Program) (x : ExecutionContext) (cells saved entities cells' entities' : List ℕ) where
  abbrev here : Config
  here = config x cells saved entities

  abbrev there : Config
  there = config x cells' saved entities'

  -- the statement was refused
  pub refused_so : (e : Refusal) (r : Result (Option Handover) Refusal) → r ≡ Err e → executed (Err e) cells' entities' ≡ execution (P.does x.pc (entities_of here) cells) cells entities
      → stepping_of r x cells' saved entities' ≡ statement_outcome here (step P here)
  unfolding executed execution step step_as
  refused_so e r h q = rw h (by (P.does x.pc (entities_of here) cells) (ap (λ (z : Execution). z.answer) q) (ap (λ (z : Execution). z.cells) q) (ap (λ (z : Execution). z.entities) q))
    where
      by : (d : Does) → refused (number e) ≡ (execution d cells entities).answer → cells' ≡ (execution d cells entities).cells → entities' ≡ (execution d cells entities).entities
          → stepping_of (Err e) x cells' saved entities' ≡ statement_outcome here (step_as P d here)
      by (next p new) a k l = cc
      by (puts p new) a k l = cc
      by (calls f) a k l = cc
      by (returns i) a k l = cc
      by (refuses n) a k l = let s : number e ≡ n = cc in rw (s, k, l)
      by (hands_over h) a k l = cc

  -- or its step is by what was done
  pub done_so : (done : Executed) → executed (Ok done) cells' entities' ≡ execution (P.does x.pc (entities_of here) cells) cells entities
      → statement_outcome there (step_by P done there) ≡ statement_outcome here (step P here)
  unfolding executed execution step step_as
  done_so done q = by (P.does x.pc (entities_of here) cells) (ap (λ (z : Execution). z.answer) q) (ap (λ (z : Execution). z.cells) q) (ap (λ (z : Execution). z.entities) q)
    where
      by : (d : Does) → accepted done ≡ (execution d cells entities).answer → cells' ≡ (execution d cells entities).cells → entities' ≡ (execution d cells entities).entities
          → statement_outcome there (step_by P done there) ≡ statement_outcome here (step_as P d here)
      by (next p new) a k l = let s : done ≡ does.Next p = cc in rw (s, k, l)
      by (puts p new) a k l = let s : done ≡ does.Next p = cc in rw (s, k, l)
      by (calls f) a k l = let s : done ≡ does.Calls f = cc in rw (s, k, l)
      by (returns i) a k l = let s : done ≡ does.Returns i = cc in rw (s, k, l)
      by (refuses n) a k l = cc
      by (hands_over h) a k l = let s : done ≡ does.HandedOver h = cc in rw (s, k, l)

-- ---- what is asked of the statement at the position

module _ (file : List ℕ) (x : ExecutionContext) (cells saved entities : List ℕ) (w : Within file x (length cells) (length saved) (length entities)) (r : FileRecord) (n : ℕ) (rs : r ≡ x.file) (ns : n ≡ x.entity_count) where
  pub usable_here : Usable (length file) r (length cells)
  usable_here = rw rs (record { lumps = w.loaded.lumps; most = w.most; lends = w.lent })

  pub usable_fields_here : UsableFields r n (length entities)
  usable_fields_here = rw (rs, ns) (record { size_least = w.size_least; size_most = w.size_most; number_most = w.number; lends_fields = w.fields })

  module _ (p : ℤ) (ps : p ≡ x.pc) (cells' entities' : List ℕ) where
    abbrev DoneThere : Result Executed Refusal → Type 0
    DoneThere d = executed d cells' entities' ≡ execution (does_at (contents_at r file) p (entities_at n entities) cells) cells entities

    known : (d : Result Executed Refusal) → DoneThere d → executed d cells' entities' ≡ execution ((program_of file).does x.pc (entities_of (config x cells saved entities)) cells) cells entities
    known d q = (rw (rs, ns, ps) at q) ∙ ap (λ (z : Does). execution z cells entities) (does_here file x.file w.loaded x.pc _ cells)

    pub step_refused : (e : Refusal) (z : Result (Option Handover) Refusal) → z ≡ Err e → DoneThere (Err e)
        → stepping_of z x cells' saved entities' ≡ statement_outcome (config x cells saved entities) (step (program_of file) (config x cells saved entities))
    step_refused e z h q = refused_so _ x cells saved entities cells' entities' e z h (known (Err e) q)

    pub step_done : (done : Executed) → DoneThere (Ok done) → (z : Result (Option Handover) Refusal) (y : ExecutionContext) (cells'' saved'' : List ℕ)
        → stepping_of z y cells'' saved'' entities' ≡ statement_outcome (config x cells' saved entities') (step_by (program_of file) done (config x cells' saved entities'))
        → stepping_of z y cells'' saved'' entities' ≡ statement_outcome (config x cells saved entities) (step (program_of file) (config x cells saved entities))
    step_done done q z y cells'' saved'' h = h ∙ done_so _ x cells saved entities cells' entities' done (known (Ok done) q)

    -- a statement that enters a function is one of the statements, whose number is below every bound of a lump
    abbrev k : Contents
    k = contents_at r file

    abbrev e : Entities
    e = entities_at n entities

    few : length k.statements < 2147483648
    few = omega (arith, count_statements r file, (lump_fitting 8 _ r.statements usable_here.lumps.statements).count)

    fetches : (f : ℕ) → calls f ≡ does_at k p e cells → judge (fetch_conditions k.statements p) ≡ 0
    unfolding does_at
    fetches f is = go (judge (fetch_conditions k.statements p)) is
      where
        go : (m : ℕ) → calls f ≡ or_refused m (execute k p (statement_at k.statements p) e cells) → m ≡ 0
        go zero is = refl
        go (suc m) is = cc

    place_at : (q : ℤ) → place_of (length k.statements) q < length k.statements → AtStatement q
    place_at (pos i) h = record { is = refl; small = omega (arith, few) }
    place_at (negsuc i) h = absurd (omega arith)

    pub call_at_statement : (done : Executed) → DoneThere (Ok done) → CallAt done x.pc
    unfolding executed execution fetch_conditions
    call_at_statement done q = by done (does_at k p e cells) refl (ap (λ (z : Execution). z.answer) q)
      where
        by : (answer : Executed) (d : Does) → d ≡ does_at k p e cells → accepted answer ≡ (execution d cells entities).answer → CallAt answer x.pc
        by answer (calls f) is k' = let s : answer ≡ does.Calls f = cc in rw (s, ← ps) (place_at p (ltb-true _ _ (judge_passed (fetch_conditions k.statements p) (fetches f is)).0))
        by answer (next q new) is k' = let s : answer ≡ does.Next q = cc in rw s tt
        by answer (puts q new) is k' = let s : answer ≡ does.Next q = cc in rw s tt
        by answer (returns a) is k' = let s : answer ≡ does.Returns a = cc in rw s tt
        by answer (refuses m) is k' = cc
        by answer (hands_over v) is k' = let s : answer ≡ does.HandedOver v = cc in rw s tt

-- ---- entry and Return

-- what a method of the context answers is a step's answer
module _ (c : Config) (z : Checked Config) (y : ExecutionContext) (cells saved entities : List ℕ) where
  pub method_refused : (e : Refusal) (r : Result (Option Handover) Refusal) → r ≡ Err e → outcome_of (Err e) y cells saved entities ≡ outcome c z → stepping_of r y cells saved entities ≡ statement_outcome c (as_step z)
  method_refused e r h q = rw h (by z q)
    where
      by : (w : Checked Config) → outcome_of (Err e) y cells saved entities ≡ outcome c w → stepping_of (Err e) y cells saved entities ≡ statement_outcome c (as_step w)
      by (refused n) q =
          let k = ap (λ (o : Outcome). o.config) q in
          let s = ap (λ (o : Outcome). o.answer) q in
          cc
      by (accepted c') q = let s = ap (λ (o : Outcome). o.answer) q in cc

  pub method_done : outcome_of (Ok tt) y cells saved entities ≡ outcome c z → stepping_of (Ok None) y cells saved entities ≡ statement_outcome c (as_step z)
  method_done q = by z q
    where
      by : (w : Checked Config) → outcome_of (Ok tt) y cells saved entities ≡ outcome c w → stepping_of (Ok None) y cells saved entities ≡ statement_outcome c (as_step w)
      by (refused n) q = let s = ap (λ (o : Outcome). o.answer) q in cc
      by (accepted c') q = let k = ap (λ (o : Outcome). o.config) q in cc

-- both look at the functions of a program alone
module _ (P Q : Program) (same : P.functions ≡ Q.functions) (c : Config) where
  pub enter_same : (f : ℕ) (back : ℤ) → enter Q f back c ≡ enter P f back c
  unfolding entry_conditions entered
  enter_same f back = rw same refl

  pub return_same : (a : ℕ) → return Q a c ≡ return P a c
  unfolding leave_conditions left
  return_same a = rw same refl

module _ (P Q : Program) (same : P.functions ≡ Q.functions) (x y : ExecutionContext) (cells saved entities cells' saved' : List ℕ) (done : Executed) where
  abbrev before : Config
  before = config x cells saved entities

  abbrev Steps : Result (Option Handover) Refusal → Type 0
  Steps r = stepping_of r y cells' saved' entities ≡ statement_outcome before (step_by P done before)

  -- a Call of f, which is to go back to the position after it
  module _ (f : ℕ) (told : done ≡ does.Calls f) (at : CallAt done x.pc) (k : ℕ) (ks : k ≡ place_of 0 x.pc) where
    entering : (b : ℤ) → b ≡ pos (k + 1) → enter Q f b before ≡ enter P f (x.pc +ℤ pos 1) before
    entering b bs =
        let here : AtStatement x.pc = rw told at at in
        enter_same P Q same before f b ∙ ap (λ (p : ℤ). enter P f p before) (bs ∙ rw ks (ap (λ (p : ℤ). p +ℤ pos 1) (sym here.is)))

    pub call_refused : (b : ℤ) (e : Refusal) → outcome_of (Err e) y cells' saved' entities ≡ after before (enter Q f b) → b ≡ pos (k + 1) → (r : Result (Option Handover) Refusal) → r ≡ Err e → Steps r
    call_refused b e o bs r h = rw told (method_refused before _ y cells' saved' entities e r h (o ∙ ap (outcome before) (entering b bs)))

    pub call_done : (b : ℤ) → outcome_of (Ok tt) y cells' saved' entities ≡ after before (enter Q f b) → b ≡ pos (k + 1) → Steps (Ok None)
    call_done b o bs = rw told (method_done before _ y cells' saved' entities (o ∙ ap (outcome before) (entering b bs)))

  module _ (a : ℕ) (told : done ≡ does.Returns a) where
    pub return_refused : (e : Refusal) (r : Result (Option Handover) Refusal) → r ≡ Err e → outcome_of (Err e) y cells' saved' entities ≡ after before (return Q a) → Steps r
    return_refused e r h o = rw told (method_refused before _ y cells' saved' entities e r h (o ∙ ap (outcome before) (return_same P Q same before a)))

    pub return_done : outcome_of (Ok tt) y cells' saved' entities ≡ after before (return Q a) → Steps (Ok None)
    return_done o = rw told (method_done before _ y cells' saved' entities (o ∙ ap (outcome before) (return_same P Q same before a)))

-- ---- what the check takes, by function

pub ruleset steps = (usable_here, usable_fields_here, step_refused, own_within)
