-- INDUCTIVE INVARIANTS. What every small step preserves holds always, along every list of calls: proved once, for any property. With it: the small steps
-- of a call are transitions, end where it ends, and are as many as a run counts.
use Prim.Native.Nat.{ℕ, zero, suc}
use Rattle.std.specs.Prelude.{◌≡◌, List, [], ◌∷◌, Bool, true, false, ℤ, negsuc, ◌+ℤ◌, length, set, eqb}
use Rattle.std.proofs.Math.Path.{refl, subst, ap}
use Rattle.std.proofs.Common.{sym, ◌∙◌, arith}
use borrow.Author.Tests.{ltb-true}
use Rattle.std.proofs.Math.IntN.{pos}
use Rattle.definition.specs.Checks.{Condition, Conditions, judge, Checked, refused, accepted, guard}
use Rattle.definition.specs.Statements.{Does, next, puts, calls, returns, refuses, hands_over}
use Rattle.definition.specs.Machine.{Program, with_unpacked, Config, entities_of, count_of, with_entities, entry_conditions, entered, enter, leave_conditions, left, return_conditions, returned}
use Rattle.definition.specs.Machine.{Stepped, completed, refused_step, handed_step, as_step, step_as, step, Ran, go_on, run_as, run_for}
use Rattle.definition.specs.Load.{program_of}
use Rattle.definition.specs.Operations.{sound, natural, host_enter, step_if, statement, run_conditions, run_after, run, carry_on_conditions, carry_on}
use Rattle.definition.specs.Operations.{left_times, leavings_conditions, leavings_to, abandon_conditions, abandon, raw_write, pair_conditions, pairs_conditions, pairs_written, write_all}
use Rattle.definition.specs.Answers.{kept, statement_outcome}
use Rattle.definition.specs.Calls.{Call, enters, steps, runs, runs_unpacked, carries, abandons, reads, writes, writes_all, lends, after, if_accepted, if_completed, unless_ended, steps_as, run_steps, run_steps_after, steps_of_run, leavings, leavings_after, small_steps}
use Rattle.definition.specs.Log.{Log, Kind, entry, leaving, other, statement_kind, kind_of}
use Rattle.definition.specs.Trace.{kind_at, log_after, Transition, StepProperty, StateProperty, Trace, log_after_steps, Counted, Always}
use Rattle.definition.specs.Unpacked.{Unpacked, Ready, AllReady}
use Rattle.definition.proofs.UnpackedLaws.{same_program}
use Rattle.definition.specs.CheckLaws.{All, WhenAccepted}
use Rattle.definition.proofs.CheckLaws.{judge_passed, all_front, all_back, guarded, guard_accepts}
use Rattle.definition.proofs.PlaceLaws.{below_natural}
use Rattle.definition.specs.StatementLaws.{Keeps, HasKind, before_in}
use Rattle.definition.proofs.StatementLaws.{keeps_all, keeps_set, keeps_one, statement_has_kind}
use Rattle.definition.specs.Invariant.{Preserves, Inductive}

-- ---- a run's small steps are as many as it counts

count_unless : (b : Bool) (c : Config) (go : Config → List Config) (ran : Config → Ran) → length (go c) ≡ (ran c).count
    → length (unless_ended b c go) ≡ (go_on b c ran).count
count_unless true c go ran h = refl
count_unless false c go ran h = h

count_step : (c : Config) (s : Stepped) (target : ℕ) (go : Config → List Config) (ran : Config → Ran)
    → ((c' : Config) → length (go c') ≡ (ran c').count) → length (steps_as s target go) ≡ (run_as s target c ran).count
count_step c (completed c') target go ran h = omega (arith, count_unless (eqb c'.state.depth target) c' go ran (h c'))
count_step c (refused_step n) target go ran h = refl
count_step c (handed_step x) target go ran h = refl

count_run : (P : Program) (n target : ℕ) (c : Config) → length (run_steps P n target c) ≡ (run_for P n target c).count
unfolding run_steps run_for
count_run P zero target c = refl
count_run P (suc n) target c = count_step c (step P c) target (λ c'. run_steps P n target c') (λ c'. run_for P n target c') (λ c'. count_run P n target c')

count_after : (m : ℕ) (P : Program) (target limit : ℕ) (c : Config) → length (run_steps_after m P target limit c) ≡ (run_after m P target limit c).count
count_after zero P target limit c = count_run P limit target c
count_after (suc m) P target limit c = refl

count_all : (P : Program) (target limit : ℤ) (c : Config) → length (steps_of_run P target limit c) ≡ (run P target limit c).count
unfolding run
count_all P target limit c = count_after (judge (run_conditions P target limit c)) P (natural target) (natural limit) c

counted : (file : List ℕ) (k : Call) (c : Config) → Counted file k c
unfolding small_steps
counted file (enters f) c = tt
counted file steps c = tt
counted file (runs target limit) c = count_all (program_of file) target limit c
counted file (runs_unpacked buffer target limit) c = count_all (with_unpacked (program_of file) buffer) target limit c
counted file carries c = tt
counted file (abandons target) c = tt
counted file (reads a) c = tt
counted file (writes a v) c = tt
counted file (writes_all numbers) c = tt
counted file (lends entities) c = tt

-- ---- the cells that a host writes

-- pairs that pass change no cell but below the count
pub pairs_keep : (count : ℕ) (cells : List ℕ) (numbers : List ℤ) (cells' : List ℕ) → All (pair_conditions count numbers) → Keeps count cells cells'
    → Keeps count cells (pairs_written numbers cells')
unfolding pair_conditions pairs_written
pairs_keep count cells [] cells' h k = k
pairs_keep count cells (a ∷ []) cells' h k = k
pairs_keep count cells (a ∷ v ∷ numbers) cells' h k =
    pairs_keep count cells numbers (set cells' (natural a) (natural v)) h.1.1 (keeps_set count cells cells' (natural a) (natural v) (below_natural count a h.0) k)

-- ---- what is preserved

module _ (file : List ℕ) (K : StateProperty) (Step : StepProperty) (S : Inductive file K Step) where
  abbrev P : Program
  P = program_of file

  abbrev Preserved : Kind → Config → Log → Config → Type 0
  Preserved κ c l c' = Preserves file K Step κ c l c'

  -- ---- one statement

  abbrev WhenCompleted : (Config → Type 0) → Stepped → Type 0
  WhenCompleted Q (completed c') = Q c'
  WhenCompleted Q (refused_step n) = Unit {0}
  WhenCompleted Q (handed_step h) = Unit {0}

  as_step_law : (Q : Config → Type 0) (x : Checked Config) → WhenAccepted Q x → WhenCompleted Q (as_step x)
  as_step_law Q (refused n) h = tt
  as_step_law Q (accepted c') h = h

  step_as_preserves : (x : Does) (c : Config) (l : Log) (κ : Kind) → HasKind (before_in file c.state.pc (entities_of c) c.cells) κ x → K c l
      → WhenCompleted (Preserved κ c l) (step_as P x c)
  unfolding step_as
  step_as_preserves (next p cells) c l κ (o, keeps) k = rw o (S.plain c l p cells c.entities k keeps (keeps_all _ c.entities))
  step_as_preserves (puts p entities) c l κ (o, keeps) k = rw o (S.plain c l p c.cells entities k (keeps_all _ c.cells) keeps)
  step_as_preserves (calls f) c l κ e k =
      let back = c.state.pc +ℤ pos 1 in
      rw e
      (as_step_law (Preserved (entry f back) c l) (enter P f back c)
      (guarded (Preserved (entry f back) c l) (entry_conditions P f c) (entered P f back c) (S.entering c l f back k)))
  step_as_preserves (returns a) c l κ e k =
      rw e
      (as_step_law (Preserved leaving c l) (guard (return_conditions P a c) (returned P a c))
      (guarded (Preserved leaving c l) (return_conditions P a c) (returned P a c) (S.returning c l a k)))
  step_as_preserves (refuses n) c l κ e k = tt
  step_as_preserves (hands_over h) c l κ e k = tt

  step_preserves : (c : Config) (l : Log) → K c l → WhenCompleted (Preserved (statement_kind file c.state.pc c.cells) c l) (step P c)
  unfolding step
  step_preserves c l k =
      step_as_preserves (P.does c.state.pc (entities_of c) c.cells) c l (statement_kind file c.state.pc c.cells)
      (statement_has_kind file c.state.pc (entities_of c) c.cells) k

  -- ---- traces that preserve K to their end

  abbrev Preserving : Call → Config → Log → List Config → Config → Type 0
  Preserving x c l cs c' = Trace file Step x c l cs c' × K c' (log_after_steps file x c l cs)

  none : (x : Call) (c : Config) (l : Log) → K c l → Preserving x c l [] c
  unfolding log_after_steps
  none x c l k = (refl, k)

  more : (x : Call) (c : Config) (l : Log) (c₁ : Config) (cs : List Config) (c' : Config) → Transition file x c c₁ → Preserved (kind_at file x c) c l c₁
      → Preserving x c₁ (log_after file (kind_at file x c) c l) cs c' → Preserving x c l (c₁ ∷ cs) c'
  unfolding log_after_steps
  more x c l c₁ cs c' own (holds, k) (along, end) = ((own, holds, along), end)

  one : (x : Call) (c : Config) (l : Log) (c₁ : Config) → Transition file x c c₁ → Preserved (kind_at file x c) c l c₁ → Preserving x c l (c₁ ∷ []) c₁
  one x c l c₁ own g = more x c l c₁ [] c₁ own g (none x c₁ (log_after file (kind_at file x c) c l) g.1)

  if_accepted_law : (x : Call) (c : Config) (l : Log) (r : Checked Config) → ((c₁ : Config) → r ≡ accepted c₁ → Transition file x c c₁) → K c l
      → WhenAccepted (Preserved (kind_at file x c) c l) r → Preserving x c l (if_accepted r) (kept c r)
  if_accepted_law x c l (refused n) own k g = none x c l k
  if_accepted_law x c l (accepted c₁) own k g = one x c l c₁ (own c₁ refl) g

  -- ---- statements and runs

  if_completed_law : (c : Config) (l : Log) (b : Bool) (s : Stepped) → step P c ≡ s → K c l
      → WhenCompleted (Preserved (kind_at file steps c) c l) s → Preserving steps c l (if_completed (step_if b s)) (statement_outcome c (step_if b s)).config
  if_completed_law c l true (completed c₁) own k g = one steps c l c₁ own g
  if_completed_law c l true (refused_step n) own k g = none steps c l k
  if_completed_law c l true (handed_step h) own k g = none steps c l k
  if_completed_law c l false s own k g = none steps c l k

  unless_ended_law : (x : Call) (c : Config) (l : Log) (b : Bool) (go : Config → List Config) (ran : Config → Ran) → K c l → Preserving x c l (go c) (ran c).config
      → Preserving x c l (unless_ended b c go) (go_on b c ran).config
  unless_ended_law x c l true go ran k r = none x c l k
  unless_ended_law x c l false go ran k r = r

  -- a run of either engine: each of its small steps is a statement of the program
  module _ (x : Call) (own : (c c₁ : Config) → step P c ≡ completed c₁ → Transition file x c c₁)
      (kind : (c : Config) → kind_at file x c ≡ statement_kind file c.state.pc c.cells) where
    step_then : (c : Config) (l : Log) (s : Stepped) (target : ℕ) (go : Config → List Config) (ran : Config → Ran) → step P c ≡ s → K c l
        → WhenCompleted (Preserved (kind_at file x c) c l) s
        → ((c₁ : Config) (l₁ : Log) → K c₁ l₁ → Preserving x c₁ l₁ (go c₁) (ran c₁).config)
        → Preserving x c l (steps_as s target go) (run_as s target c ran).config
    step_then c l (completed c₁) target go ran is k g r =
        let l₁ = log_after file (kind_at file x c) c l in
        more x c l c₁ (unless_ended (eqb c₁.state.depth target) c₁ go) _ (own c c₁ is) g
        (unless_ended_law x c₁ l₁ (eqb c₁.state.depth target) go ran g.1 (r c₁ l₁ g.1))
    step_then c l (refused_step n) target go ran is k g r = none x c l k
    step_then c l (handed_step h) target go ran is k g r = none x c l k

    run_preserves : (n target : ℕ) (c : Config) (l : Log) → K c l → Preserving x c l (run_steps P n target c) (run_for P n target c).config
    unfolding run_steps run_for
    run_preserves zero target c l k = none x c l k
    run_preserves (suc n) target c l k =
        step_then c l (step P c) target (λ c₁. run_steps P n target c₁) (λ c₁. run_for P n target c₁) refl k
        (subst (λ (κ : Kind). WhenCompleted (Preserved κ c l) (step P c)) (sym (kind c)) (step_preserves c l k))
        (λ c₁ l₁ k₁. run_preserves n target c₁ l₁ k₁)

    run_after_preserves : (n target limit : ℕ) (c : Config) (l : Log) → K c l
        → Preserving x c l (run_steps_after n P target limit c) (run_after n P target limit c).config
    run_after_preserves zero target limit c l k = run_preserves limit target c l k
    run_after_preserves (suc n) target limit c l k = none x c l k

    run_all_preserves : (target limit : ℤ) (c : Config) (l : Log) → K c l → Preserving x c l (steps_of_run P target limit c) (run P target limit c).config
    unfolding run
    run_all_preserves target limit c l k = run_after_preserves (judge (run_conditions P target limit c)) (natural target) (natural limit) c l k

  runs_preserve : (target limit : ℤ) (c : Config) (l : Log) → K c l → Preserving (runs target limit) c l (steps_of_run P target limit c) (run P target limit c).config
  unfolding kind_of
  runs_preserve target limit = run_all_preserves (runs target limit) (λ c c₁ is. is) (λ c. refl) target limit

  -- R-12: on the condition, the second engine's program is the first's
  runs_unpacked_preserve : (buffer : List ℕ) (target limit : ℤ) → Unpacked file buffer → (c : Config) (l : Log) → K c l
      → Preserving (runs_unpacked buffer target limit) c l (steps_of_run (with_unpacked P buffer) target limit c) (run (with_unpacked P buffer) target limit c).config
  unfolding kind_of
  runs_unpacked_preserve buffer target limit u c l k =
      let same : with_unpacked P buffer ≡ P = same_program file buffer u in
      subst (λ (Q : Program). Preserving (runs_unpacked buffer target limit) c l (steps_of_run Q target limit c) (run Q target limit c).config) (sym same)
      (run_all_preserves (runs_unpacked buffer target limit) (λ c₁ c₂ is. ap (λ (Q : Program). step Q c₁) same ∙ is) (λ c₁. refl) target limit c l k)

  -- ---- an abandonment

  leavings_preserve : (t : ℤ) (n : ℕ) (c : Config) (l : Log) → All (leavings_conditions P n c) → K c l → Preserving (abandons t) c l (leavings P n c) (left_times P n c)
  unfolding leavings left_times leavings_conditions kind_of
  leavings_preserve t zero c l h k = none (abandons t) c l k
  leavings_preserve t (suc n) c l h k =
      let here : All (leave_conditions P c) = all_front (leave_conditions P c) (leavings_conditions P n (left P c)) h in
      let g : Preserved leaving c l (left P c) = S.leave_one c l k here in
      more (abandons t) c l (left P c) (leavings P n (left P c)) (left_times P n (left P c)) (guard_accepts (leave_conditions P c) (left P c) here) g
      (leavings_preserve t n (left P c) (log_after file leaving c l) (all_back (leave_conditions P c) (leavings_conditions P n (left P c)) h) g.1)

  abandon_preserves : (t : ℤ) (c : Config) (l : Log) → K c l
      → Preserving (abandons t) c l (leavings_after (judge (abandon_conditions P t c)) P (leavings_to t c) c) (kept c (abandon P t c))
  unfolding abandon guard abandon_conditions
  abandon_preserves t c l k = go (judge (abandon_conditions P t c)) refl
    where
      go : (n : ℕ) → judge (abandon_conditions P t c) ≡ n
          → Preserving (abandons t) c l (leavings_after n P (leavings_to t c) c) (kept c (Rattle.definition.specs.Checks.decided n (left_times P (leavings_to t c) c)))
      go zero e = leavings_preserve t (leavings_to t c) c l (judge_passed (abandon_conditions P t c) e).1.1 k
      go (suc n) e = none (abandons t) c l k

  -- ---- the calls

  entry_preserves : (f : ℤ) (c : Config) (l : Log) → K c l → WhenAccepted (Preserved (kind_at file (enters f) c) c l) (host_enter P f c)
  unfolding host_enter kind_of entry_conditions
  entry_preserves (pos f) c l k = guarded (Preserved (entry f c.state.pc) c l) _ _ λ h. S.entering c l f c.state.pc k h.1
  entry_preserves (negsuc f) c l k =
      guarded (Preserved (entry 0 c.state.pc) c l) _ _ λ h. absurd (omega (arith, ltb-true (length P.functions) (length P.functions) h.1.0))

  call_preserves : (x : Call) → Ready file x → (c : Config) (l : Log) → K c l → Preserving x c l (small_steps P x c) (after P x c)
  unfolding small_steps after statement carry_on carry_on_conditions raw_write write_all pairs_conditions kind_of
  call_preserves (enters f) ready c l k = if_accepted_law (enters f) c l (host_enter P f c) (λ c₁ e. e) k (entry_preserves f c l k)
  call_preserves steps ready c l k = if_completed_law c l (sound P c) (step P c) refl k (step_preserves c l k)
  call_preserves (runs target limit) ready c l k = runs_preserve target limit c l k
  call_preserves (runs_unpacked buffer target limit) ready c l k = runs_unpacked_preserve buffer target limit ready c l k
  call_preserves carries ready c l k =
      if_accepted_law carries c l (carry_on P c) (λ c₁ e. e) k
      (guarded (Preserved other c l) _ _ λ h. S.plain c l (c.state.pc +ℤ pos 1) c.cells c.entities k (keeps_all _ c.cells) (keeps_all _ c.entities))
  call_preserves (abandons target) ready c l k = abandon_preserves target c l k
  call_preserves (reads a) ready c l k = none (reads a) c l k
  call_preserves (writes a v) ready c l k =
      if_accepted_law (writes a v) c l (raw_write P a v c) (λ c₁ e. e) k
      (guarded (Preserved other c l) _ _ λ h.
      S.writing c l (set c.cells (natural a) v) k (keeps_one (count_of c) c.cells (natural a) v (below_natural (count_of c) a h.1.0)))
  call_preserves (writes_all numbers) ready c l k =
      if_accepted_law (writes_all numbers) c l (write_all P numbers c) (λ c₁ e. e) k
      (guarded (Preserved other c l) _ _ λ h.
      S.writing c l (pairs_written numbers c.cells) k (pairs_keep (count_of c) c.cells numbers c.cells h.1.1.1 (keeps_all (count_of c) c.cells)))
  call_preserves (lends entities) ready c l k = one (lends entities) c l (with_entities c entities) refl (S.lending c l entities k)

  -- what K shows, holds between the calls, and Step of every small step
  pub always : (At : StateProperty) → ((c : Config) (l : Log) → K c l → At c l)
      → (c : Config) (l : Log) (xs : List Call) → AllReady file xs → K c l → Always file Step At c l xs
  always At at c l [] ready k = at c l k
  always At at c l (x ∷ xs) ready k =
      let trace = call_preserves x ready.0 c l k in
      (at c l k, trace.0, counted file x c, always At at (after P x c) (log_after_steps file x c l (small_steps P x c)) xs ready.1 trace.1)
