-- One statement that is fetched from the buffer: what it does, and the definition's step of it. Assumes nothing.
use Rattle.std.specs.Prelude.{ℕ, zero, suc, ◌<◌, List, length, Option, Result, Ok, Err, ℤ, pos, negsuc, ◌+ℤ◌}
use Rattle.std.proofs.Common.{◌≡◌, refl, ap, ◌∙◌, arith, ltb-true}
use Rattle.definition.specs.declared.FileRecord.{FileRecord}
use Rattle.definition.specs.declared.Handover.{Handover}
use Rattle.definition.specs.declared.Statement.{Statement}
use Rattle.definition.specs.declared.refusal.Refusal.{Refusal}
use Rattle.definition.specs.Checks.{refused, accepted, judge}
use Rattle.definition.specs.Refusals.{number}
use Rattle.definition.specs.File.{Contents, contents_at, with_statements, unpacked_statements}
use Rattle.definition.specs.Cells.{signed, cell_of}
use Rattle.definition.specs.Statements.{Entities, Does, next, puts, calls, returns, refuses, hands_over, or_refused, place_of, fetch_conditions, statement_at, execute, does_at}
use Rattle.definition.specs.Machine.{Program, Config, entities_of, with_unpacked, step}
use Rattle.definition.specs.Load.{program_with, program_of}
use Rattle.definition.specs.Answers.{statement_outcome}
use Rattle.definition.proofs.CheckLaws.{judge_passed}
use Rattle.definition.proofs.RecordLaws.{length_records}
use Rattle.functions.specs.Answers.{found, fetched}
use Rattle.functions.specs.Laws.{AllFit, fetch_accepts, does_fetched, does_refused, lump_fitting}
use Rattle.execution.specs.Lent.{entities_at}
use Rattle.execution.specs.declared.Executed.{Executed}
use Rattle.execution.specs.declared.Executed.TheVariants as does
use Rattle.execution.specs.Execution.{Execution, does_of, executed, execution}
use Rattle.execution.proofs.Transfers.{kept}
use Rattle.progs.specs.declared.ExecutionContext.{ExecutionContext}
use Rattle.progs.specs.Contexts.{config, Loaded, Within, AtStatement}
use Rattle.progs.proofs.StateLaws.{own_within}
use Rattle.server.specs.Stepping.{stepping_of, step_by, CallAt}
use Rattle.server.proofs.StepLaws.{refused_so, done_so, usable_here, usable_fields_here}
use Rattle.second_engine.proofs.QuickLaws.{goto_does, return_does}

-- ---- what it does

-- what a statement does depends on no other statement
same_tables : (k : Contents) (sts : List Statement) (p : ℤ) (st : Statement) (e : Entities) (cells : List ℕ) → execute k p st e cells ≡ execute (with_statements k sts) p st e cells
unfolding execute
same_tables k sts p st e cells = refl

few : (r : FileRecord) (end : ℕ) (buffer : List ℕ) → AllFit end r → length (unpacked_statements buffer r.statements.count) < 2147483648
few r end buffer fit =
    let size : length (unpacked_statements buffer r.statements.count) ≡ r.statements.count = length_records _ _ _ _ in
    omega (arith, size, (lump_fitting 8 end r.statements fit.statements).count)

module _ (r : FileRecord) (file buffer : List ℕ) (p q : ℤ) (as_passed : q ≡ p) (number_of : ℕ) (cells entities : List ℕ) where
  abbrev k : Contents
  k = with_statements (contents_at r file) (unpacked_statements buffer r.statements.count)

  abbrev e : Entities
  e = entities_at number_of entities

  abbrev DoneAt : Result Executed Refusal → List ℕ → List ℕ → Type 0
  DoneAt x cells' entities' = executed x cells' entities' ≡ execution (does_at k p e cells) cells entities

  writes_nothing : (x : Result Executed Refusal) → does_of x cells ≡ does_at k p e cells → DoneAt x cells entities
  writes_nothing x h = kept x cells entities ∙ ap (λ (d : Does). execution d cells entities) h

  pub not_fetched : (er : Refusal) (x : Result Executed Refusal) → x ≡ Err er → refused (number er) ≡ fetched (unpacked_statements buffer r.statements.count) q → DoneAt x cells entities
  not_fetched er x h f = rw h (writes_nothing (Err er) (does_refused k p _ e cells (rw as_passed at f)))

  module _ (i : ℕ) (st : Statement) (by_fetch : found i st ≡ fetched (unpacked_statements buffer r.statements.count) q) where
    f : found i st ≡ fetched k.statements p
    f = rw as_passed at by_fetch

    pub place_below : (end : ℕ) → AllFit end r → i < 2147483648
    place_below end fit = omega (arith, (fetch_accepts _ _ _ _ f).there, few r end buffer fit)

    pub opcode_below : st.opcode < 66
    opcode_below = (fetch_accepts _ _ _ _ f).opcode

    pub did_goto : st.opcode ≡ 61 → (to : ℤ) → to ≡ pos i +ℤ signed st.arg1 → DoneAt (Ok (does.Next to)) cells entities
    did_goto is to there = writes_nothing _ (goto_does k p e cells i st f is to there)

    pub did_return : st.opcode ≡ 43 → (a : ℕ) → a ≡ cell_of st.arg1 → DoneAt (Ok (does.Returns a)) cells entities
    did_return is a there = writes_nothing _ (return_does k p e cells i st f is a there)

    pub did : (x : Result Executed Refusal) (cells' entities' : List ℕ) → executed x cells' entities' ≡ execution (execute (contents_at r file) (pos i) st e cells) cells entities → DoneAt x cells' entities'
    did x cells' entities' h =
        let here : execute k (pos i) st e cells ≡ does_at k p e cells = rw (← (fetch_accepts _ _ _ _ f).position) (does_fetched k p i st e cells f) in
        h ∙ ap (λ (d : Does). execution d cells entities) (same_tables (contents_at r file) _ (pos i) st e cells ∙ here)

-- ---- a Call is one of the statements, whose number is below every bound of a lump

module _ (k : Contents) (few : length k.statements < 2147483648) (p : ℤ) (e : Entities) (cells entities cells' entities' : List ℕ) where
  fetches : (f : ℕ) → calls f ≡ does_at k p e cells → judge (fetch_conditions k.statements p) ≡ 0
  unfolding does_at
  fetches f is = go (judge (fetch_conditions k.statements p)) is
    where
      go : (m : ℕ) → calls f ≡ or_refused m (execute k p (statement_at k.statements p) e cells) → m ≡ 0
      go zero is = refl
      go (suc m) is = cc

  place_at : (q : ℤ) → place_of (length k.statements) q < length k.statements → AtStatement q
  place_at (pos i) h = record { is = refl; small = omega (arith, few) }
  place_at (negsuc i) h = absurd (omega arith)

  call_at : (done : Executed) → executed (Ok done) cells' entities' ≡ execution (does_at k p e cells) cells entities → CallAt done p
  unfolding executed execution fetch_conditions
  call_at done q = by done (does_at k p e cells) refl (ap (λ (z : Execution). z.answer) q)
    where
      by : (answer : Executed) (d : Does) → d ≡ does_at k p e cells → accepted answer ≡ (execution d cells entities).answer → CallAt answer p
      by answer (calls f) is k' = let s : answer ≡ does.Calls f = cc in rw s (place_at p (ltb-true _ _ (judge_passed (fetch_conditions k.statements p) (fetches f is)).0))
      by answer (next q new) is k' = let s : answer ≡ does.Next q = cc in rw s tt
      by answer (puts q new) is k' = let s : answer ≡ does.Next q = cc in rw s tt
      by answer (returns a) is k' = let s : answer ≡ does.Returns a = cc in rw s tt
      by answer (refuses m) is k' = cc
      by answer (hands_over v) is k' = let s : answer ≡ does.HandedOver v = cc in rw s tt

-- ---- the program whose statements come from a buffer

pub same_does : (file buffer : List ℕ) (r : FileRecord) → Loaded file r → does_at (with_statements (contents_at r file) (unpacked_statements buffer r.statements.count)) ≡ (with_unpacked (program_of file) buffer).does
unfolding program_with
same_does file buffer r h = ap (λ (q : FileRecord). does_at (with_statements (contents_at q file) (unpacked_statements buffer q.statements.count))) h.same

-- ---- the step

module _ (file buffer : List ℕ) (x : ExecutionContext) (cells saved entities : List ℕ) (w : Within file x (length cells) (length saved) (length entities)) (r : FileRecord) (n : ℕ) (rs : r ≡ x.file) (ns : n ≡ x.entity_count) (p : ℤ) (ps : p ≡ x.pc) (cells' entities' : List ℕ) where
  abbrev P : Program
  P = with_unpacked (program_of file) buffer

  abbrev here : Config
  here = config x cells saved entities

  abbrev DoneThere : Result Executed Refusal → Type 0
  DoneThere d = executed d cells' entities' ≡ execution (does_at (with_statements (contents_at r file) (unpacked_statements buffer r.statements.count)) p (entities_at n entities) cells) cells entities

  known : (d : Result Executed Refusal) → DoneThere d → executed d cells' entities' ≡ execution (P.does x.pc (entities_of here) cells) cells entities
  known d q = (rw (rs, ns, ps) at q) ∙ ap (λ (f : ℤ → Entities → List ℕ → Does). execution (f x.pc (entities_of here) cells) cells entities) (same_does file buffer x.file w.loaded)

  pub step_refused : (e : Refusal) (z : Result (Option Handover) Refusal) → z ≡ Err e → DoneThere (Err e) → stepping_of z x cells' saved entities' ≡ statement_outcome here (step P here)
  step_refused e z h q = refused_so P x cells saved entities cells' entities' e z h (known (Err e) q)

  pub call_there : (done : Executed) → DoneThere (Ok done) → CallAt done x.pc
  call_there done q = rw (← ps) (call_at _ (few r (length file) buffer (rw rs w.loaded.lumps)) p (entities_at n entities) cells entities cells' entities' done q)

  pub step_done : (done : Executed) → DoneThere (Ok done) → (z : Result (Option Handover) Refusal) (y : ExecutionContext) (cells'' saved'' : List ℕ)
      → stepping_of z y cells'' saved'' entities' ≡ statement_outcome (config x cells' saved entities') (step_by P done (config x cells' saved entities'))
      → stepping_of z y cells'' saved'' entities' ≡ statement_outcome here (step P here)
  step_done done q z y cells'' saved'' h = h ∙ done_so P x cells saved entities cells' entities' done (known (Ok done) q)

-- ---- what the check takes, by function

pub ruleset statements = (not_fetched, place_below, opcode_below, did_goto, did_return, did)

pub ruleset steps = (usable_here, usable_fields_here, step_refused, own_within)
