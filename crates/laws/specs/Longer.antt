-- A LONGER LIMIT NEVER CHANGES A VERDICT: document 02's R-13, for the run that a host calls, its checks included, in any program and from any state and
-- buffers. First of any engine, by the program that it runs and what it checks between 13 and 28; then of `run`.
use Rattle.std.specs.Prelude.{ℕ, zero, suc, ◌+◌, ◌-◌, ◌≤◌, ◌<◌, ◌≡◌, refl, List, [], ◌∷◌, ◌++◌, Bool, true, false, ℤ, pos, negsuc, ◌+ℤ◌, length, eqb}
use Rattle.std.proofs.Common.{sym, ◌∙◌, ap, subst, arith, zero-add, suc-add, lt-ltb}
use Rattle.std.proofs.lemmas.Bool.{eqb-false}
use Rattle.definition.specs.declared.FileRecord.{FileRecord}
use Rattle.definition.specs.declared.Settings.{Settings}
use Rattle.definition.specs.declared.RunAnswer.{RunAnswer}
use Rattle.definition.specs.declared.RunAnswer.TheVariants.{Ended, Spent, Refused, HandedOver}
use Rattle.definition.specs.Checks.{Conditions, ◌otherwise◌, judge, guard}
use Rattle.definition.specs.File.{greatest_depth}
use Rattle.definition.specs.Statements.{Does, next, puts, calls, returns, refuses, hands_over}
use Rattle.definition.specs.Machine.{Program, with_unpacked, Config, entities_of, entry_conditions, entered, enter, left, return_conditions, returned}
use Rattle.definition.specs.Machine.{Stepped, completed, refused_step, handed_step, step_as, step, Ran, one_more, go_on, run_as, run_for}
use Rattle.definition.specs.Load.{program_of}
use Rattle.definition.specs.Operations.{sound, natural, below, permitted, run_conditions, run_after, run}
use Rattle.definition.specs.Calls.{runs, unless_ended, steps_as, run_steps, run_steps_after, small_steps}
use Rattle.definition.specs.CheckLaws.{All}
use Rattle.definition.proofs.CheckLaws.{judge_passed, judge_all, all_front, all_back, all_both, guarded}
use Rattle.definition.proofs.PlaceLaws.{below_natural}
use Rattle.laws.specs.Entities.{WhenCompleted, as_step_law}
use Rattle.laws.specs.Runs.{Says, run_says, UnlessEnded, WhenShort, run_keeps}
use Rattle.laws.specs.Passing.{KeepsNumbers, Passing, sound_passing, passing_sound, run_passing}
use Rattle.laws.specs.StatementNumbers.{keeps_numbers, unpacked_keeps_numbers}

-- "a run that ended, was refused or was handed over": every answer but spent
abbrev pub IsVerdict : RunAnswer → Type 0
IsVerdict Ended = Unit {0}
IsVerdict Spent = ⊥
IsVerdict (Refused n) = Unit {0}
IsVerdict (HandedOver h) = Unit {0}

-- the greatest limit that is permitted in a state
abbrev pub greatest_permitted : Config → ℕ
greatest_permitted c = c.state.settings.limit

abbrev pub Permitted : Config → ℕ → Type 0
Permitted c n = permitted (pos n) (greatest_permitted c) ≡ true

-- "counts added"
abbrev pub counts_added : Ran → Ran → Ran
counts_added first second = record { answer = second.answer; count = first.count + second.count; config = second.config }

-- ---- after the checks: a run of n + m statements is one of n and, if that is spent, one of m from where it stopped

abbrev on_if_spent : RunAnswer → Ran → (Config → Ran) → Ran
on_if_spent Ended r go = r
on_if_spent Spent r go = counts_added r (go r.config)
on_if_spent (Refused n) r go = r
on_if_spent (HandedOver h) r go = r

abbrev then_run : Ran → (Config → Ran) → Ran
then_run r go = on_if_spent r.answer r go

same_count : (r : Ran) (n : ℕ) → n ≡ r.count → record { answer = r.answer; count = n; config = r.config } ≡ r
same_count r n e = ap (λ (k : ℕ). record { answer = r.answer; count = k; config = r.config }) e

one_later : (a : RunAnswer) (r : Ran) (go : Config → Ran) → on_if_spent a (one_more r) go ≡ one_more (on_if_spent a r go)
one_later Ended r go = refl
one_later Spent r go =
    ap (λ (k : ℕ). record { answer = (go r.config).answer; count = k; config = (go r.config).config }) (omega arith)
one_later (Refused n) r go = refl
one_later (HandedOver h) r go = refl

goes_on : (b : Bool) (c : Config) (long short go : Config → Ran) → long c ≡ then_run (short c) go
    → one_more (go_on b c long) ≡ then_run (one_more (go_on b c short)) go
goes_on true c long short go h = refl
goes_on false c long short go h = ap one_more h ∙ sym (one_later (short c).answer (short c) go)

as_adds : (s : Stepped) (target : ℕ) (c : Config) (long short go : Config → Ran) → ((c' : Config) → long c' ≡ then_run (short c') go)
    → run_as s target c long ≡ then_run (run_as s target c short) go
as_adds (completed c') target c long short go h = goes_on (eqb c'.state.depth target) c' long short go (h c')
as_adds (refused_step n) target c long short go h = refl
as_adds (handed_step x) target c long short go h = refl

run_adds : (P : Program) (n m target : ℕ) (c : Config) → run_for P (n + m) target c ≡ then_run (run_for P n target c) (λ c'. run_for P m target c')
unfolding run_for
run_adds P zero m target c = ap (λ (k : ℕ). run_for P k target c) (zero-add m) ∙ sym (same_count (run_for P m target c) _ (zero-add _))
run_adds P (suc n) m target c =
    ap (λ (k : ℕ). run_for P k target c) (suc-add n m)
    ∙ as_adds (step P c) target c (λ c'. run_for P (n + m) target c') (λ c'. run_for P n target c') (λ c'. run_for P m target c') (λ c'. run_adds P n m target c')

decided : (a : RunAnswer) (r : Ran) (go : Config → Ran) → IsVerdict a → on_if_spent a r go ≡ r
decided Ended r go v = refl
decided Spent r go v = absurd v
decided (Refused n) r go v = refl
decided (HandedOver h) r go v = refl

verdict_stays : (P : Program) (n m target : ℕ) (c : Config) → n ≤ m → IsVerdict (run_for P n target c).answer → run_for P m target c ≡ run_for P n target c
verdict_stays P n m target c h v =
    let more : m ≡ n + (m - n) = omega arith in
    ap (λ (k : ℕ). run_for P k target c) more
    ∙ run_adds P n (m - n) target c
    ∙ decided (run_for P n target c).answer (run_for P n target c) (λ c'. run_for P (m - n) target c') v

-- ---- what a spent run leaves as it was: the target is still below the depth, which falls by one at most with a statement and was never the target, and the
-- state records the same of the file and holds the same settings

pub record StillRunnable (target : ℕ) (c₀ c : Config) : Type 0 where
  pub above : target < c.state.depth
  pub same_file_law : c.state.file ≡ c₀.state.file
  pub same_settings : c.state.settings ≡ c₀.state.settings

-- so the greatest limit that is permitted is the one that it was
same_most : (target : ℕ) (c₀ c : Config) → StillRunnable target c₀ c → greatest_permitted c ≡ greatest_permitted c₀
same_most target c₀ c k = ap (λ (s : Settings). s.limit) k.same_settings

-- what one statement may do to them
record OneStatement (c c' : Config) : Type 0 where
  falls : c.state.depth ≤ c'.state.depth + 1
  stays : c'.state.file ≡ c.state.file
  held : c'.state.settings ≡ c.state.settings

step_as_one : (P : Program) (x : Does) (c : Config) → WhenCompleted (OneStatement c) (step_as P x c)
unfolding step_as entered left
step_as_one P (next p cells) c = record { falls = omega arith; stays = refl; held = refl }
step_as_one P (puts p entities) c = record { falls = omega arith; stays = refl; held = refl }
step_as_one P (calls f) c =
    let back = c.state.pc +ℤ pos 1 in
    as_step_law (OneStatement c) (enter P f back c)
    (guarded (OneStatement c) (entry_conditions P f c) (entered P f back c) λ h. record { falls = omega arith; stays = refl; held = refl })
step_as_one P (returns a) c =
    as_step_law (OneStatement c) (guard (return_conditions P a c) (returned P a c))
    (guarded (OneStatement c) (return_conditions P a c) (returned P a c) λ h. record { falls = omega arith; stays = refl; held = refl })
step_as_one P (refuses n) c = tt
step_as_one P (hands_over h) c = tt

still_after : (target : ℕ) (c₀ c : Config) → StillRunnable target c₀ c → (s : Stepped) → WhenCompleted (OneStatement c) s → WhenShort target (StillRunnable target c₀) s
still_after target c₀ c k (completed c') one =
    λ short. let apart = eqb-false c'.state.depth target short in
    record { above = omega (arith, apart, one.falls, k.above); same_file_law = one.stays ∙ k.same_file_law; same_settings = one.held ∙ k.same_settings }
still_after target c₀ c k (refused_step n) one = tt
still_after target c₀ c k (handed_step x) one = tt

run_still : (P : Program) (n target : ℕ) (c : Config) → target < c.state.depth
    → UnlessEnded (run_for P n target c).answer (StillRunnable target c (run_for P n target c).config)
unfolding step
run_still P n target c h =
    run_keeps P target (StillRunnable target c)
    (λ c' k. still_after target c c' k (step P c') (step_as_one P (P.does c'.state.pc (entities_of c') c'.cells) c'))
    n c (record { above = h; same_file_law = refl; same_settings = refl })

still_below : (target : ℤ) (d d' : ℕ) → below target d ≡ true → natural target < d' → below target d' ≡ true
still_below (pos i) d d' e h = lt-ltb i d' h
still_below (negsuc i) d d' e h = e

-- ---- the statements on the way

steps_on : (b : Bool) (c : Config) (long short on : Config → List Config) (ran : Config → Ran)
    → ((ran c).answer ≡ Spent → long c ≡ short c ++ on (ran c).config)
    → (go_on b c ran).answer ≡ Spent
    → unless_ended b c long ≡ unless_ended b c short ++ on (go_on b c ran).config
steps_on true c long short on ran h e = absurd (subst IsVerdict e tt)
steps_on false c long short on ran h e = h e

steps_as_law : (s : Stepped) (target : ℕ) (c : Config) (long short on : Config → List Config) (ran : Config → Ran)
    → ((c' : Config) → (ran c').answer ≡ Spent → long c' ≡ short c' ++ on (ran c').config)
    → (run_as s target c ran).answer ≡ Spent
    → steps_as s target long ≡ steps_as s target short ++ on (run_as s target c ran).config
steps_as_law (completed c') target c long short on ran h e =
    ap (λ (cs : List Config). c' ∷ cs) (steps_on (eqb c'.state.depth target) c' long short on ran (h c') e)
steps_as_law (refused_step n) target c long short on ran h e = absurd (subst IsVerdict e tt)
steps_as_law (handed_step x) target c long short on ran h e = absurd (subst IsVerdict e tt)

steps_add : (P : Program) (n m target : ℕ) (c : Config) → (run_for P n target c).answer ≡ Spent
    → run_steps P (n + m) target c ≡ run_steps P n target c ++ run_steps P m target (run_for P n target c).config
unfolding run_for run_steps
steps_add P zero m target c e = ap (λ (k : ℕ). run_steps P k target c) (zero-add m)
steps_add P (suc n) m target c e =
    ap (λ (k : ℕ). run_steps P k target c) (suc-add n m)
    ∙ steps_as_law (step P c) target c (λ c'. run_steps P (n + m) target c') (λ c'. run_steps P n target c') (λ c'. run_steps P m target c') (λ c'. run_for P n target c')
    (λ c' spent. steps_add P n m target c' spent) e

-- the configuration after these small steps from c
abbrev pub end_of : Config → List Config → Config
end_of c [] = c
end_of c (c₁ ∷ cs) = end_of c₁ cs

end_on : (b : Bool) (c : Config) (go : Config → List Config) (ran : Config → Ran) → end_of c (go c) ≡ (ran c).config
    → end_of c (unless_ended b c go) ≡ (go_on b c ran).config
end_on true c go ran h = refl
end_on false c go ran h = h

end_as : (s : Stepped) (target : ℕ) (c : Config) (go : Config → List Config) (ran : Config → Ran) → ((c' : Config) → end_of c' (go c') ≡ (ran c').config)
    → end_of c (steps_as s target go) ≡ (run_as s target c ran).config
end_as (completed c') target c go ran h = end_on (eqb c'.state.depth target) c' go ran (h c')
end_as (refused_step n) target c go ran h = refl
end_as (handed_step x) target c go ran h = refl

steps_end : (P : Program) (n target : ℕ) (c : Config) → end_of c (run_steps P n target c) ≡ (run_for P n target c).config
unfolding run_for run_steps
steps_end P zero target c = refl
steps_end P (suc n) target c = end_as (step P c) target c (λ c'. run_steps P n target c') (λ c'. run_for P n target c') (λ c'. steps_end P n target c')

-- ---- any engine: the program that it runs, and what it checks between 13 and 28, which may depend on what the state records of the file alone

module _ (P : Program) (more : FileRecord → Conditions) where
  -- what is checked before 28
  abbrev first_checks : Config → Conditions
  first_checks c = (sound P c otherwise 13) ∷ more c.state.file

  abbrev pub conditions_by : ℤ → ℤ → Config → Conditions
  conditions_by target limit c =
      first_checks c ++ ((permitted limit (greatest_permitted c) otherwise 28) ∷ (below target c.state.depth otherwise 29) ∷ [])

  abbrev pub run_by : ℤ → ℤ → Config → Ran
  run_by target limit c = run_after (judge (conditions_by target limit c)) P (natural target) (natural limit) c

  abbrev pub steps_by : ℤ → ℤ → Config → List Config
  steps_by target limit c = run_steps_after (judge (conditions_by target limit c)) P (natural target) (natural limit) c

  -- the same is refused, 28 apart, under every limit that is permitted
  same_refusal : (target : ℤ) (n m : ℕ) (c : Config) → Permitted c n → Permitted c m → judge (conditions_by target (pos m) c) ≡ judge (conditions_by target (pos n) c)
  same_refusal target n m c p q =
      ap (λ (b : Bool). judge (first_checks c ++ ((b otherwise 28) ∷ (below target c.state.depth otherwise 29) ∷ []))) (q ∙ sym p)

  same_after : (j target n m : ℕ) (c : Config) → n ≤ m → IsVerdict (run_after j P target n c).answer → run_after j P target m c ≡ run_after j P target n c
  same_after zero target n m c h v = verdict_stays P n m target c h v
  same_after (suc j) target n m c h v = refl

  pub verdict_kept_by : (target : ℤ) (n m : ℕ) (c : Config) → Permitted c n → Permitted c m → n ≤ m
      → IsVerdict (run_by target (pos n) c).answer → run_by target (pos m) c ≡ run_by target (pos n) c
  verdict_kept_by target n m c p q h v =
      ap (λ (j : ℕ). run_after j P (natural target) m c) (same_refusal target n m c p q)
      ∙ same_after (judge (conditions_by target (pos n) c)) (natural target) n m c h v

  -- a run that is spent was not refused by a check
  checks_passed : (j target n : ℕ) (c : Config) → (run_after j P target n c).answer ≡ Spent → j ≡ 0
  checks_passed zero target n c e = refl
  checks_passed (suc j) target n c e = absurd (subst IsVerdict e tt)

  -- a run that was spent
  module _ (target : ℤ) (n : ℕ) (c : Config) (spent : (run_by target (pos n) c).answer ≡ Spent) where
    abbrev t : ℕ
    t = natural target

    abbrev first : Ran
    first = run_by target (pos n) c

    passed : judge (conditions_by target (pos n) c) ≡ 0
    passed = checks_passed (judge (conditions_by target (pos n) c)) t n c spent

    first_is : first ≡ run_for P n t c
    first_is = ap (λ (j : ℕ). run_after j P t n c) passed

    run_spent : (run_for P n t c).answer ≡ Spent
    run_spent = sym (ap (λ (r : Ran). r.answer) first_is) ∙ spent

    -- "spent after n"
    pub spent_after_by : first.count ≡ n
    spent_after_by =
        ap (λ (r : Ran). r.count) first_is
        ∙ subst (λ (a : RunAnswer). Says P n t a (run_for P n t c).count (run_for P n t c).config) run_spent (run_says P n t c)

    pub stands_by : end_of c (steps_by target (pos n) c) ≡ first.config
    stands_by = ap (λ (j : ℕ). end_of c (run_steps_after j P t n c)) passed ∙ steps_end P n t c ∙ ap (λ (r : Ran). r.config) (sym first_is)

    checked : All (first_checks c)
    checked = all_front (first_checks c) _ (judge_passed (conditions_by target (pos n) c) passed)

    target_below : below target c.state.depth ≡ true
    target_below = (all_back (first_checks c) _ (judge_passed (conditions_by target (pos n) c) passed)).1.0

    -- what holds where the run stopped, since it did not end
    stopped : (K : Config → Type 0) → UnlessEnded (run_for P n t c).answer (K (run_for P n t c).config) → K first.config
    stopped K h =
        let k : K (run_for P n t c).config = subst (λ (a : RunAnswer). UnlessEnded a (K (run_for P n t c).config)) run_spent h in
        subst (λ (r : Ran). K r.config) (sym first_is) k

    still : StillRunnable t c first.config
    still = stopped (StillRunnable t c) (run_still P n t c (below_natural c.state.depth target target_below))

    -- it is resumed
    module _ (keeps : KeepsNumbers P) (frames : greatest_depth ≤ length c.state.frames) (m : ℕ) (permitted_m : Permitted c m) (permitted_both : Permitted c (n + m)) where
      checked_again : All (first_checks first.config)
      checked_again =
          let k : Passing P first.config = stopped (Passing P) (run_passing P keeps n t c (sound_passing P c frames checked.0)) in
          (passing_sound P first.config k, subst (λ (r : FileRecord). All (more r)) (sym still.same_file_law) checked.1)

      both_passed : judge (conditions_by target (pos (n + m)) c) ≡ 0
      both_passed = judge_all (conditions_by target (pos (n + m)) c) (all_both (first_checks c) _ checked (permitted_both, (target_below, tt)))

      second_passed : judge (conditions_by target (pos m) first.config) ≡ 0
      second_passed =
          let c' = first.config in
          let ok : Permitted c' m = subst (λ (k : ℕ). permitted (pos m) k ≡ true) (sym (same_most t c c' still)) permitted_m in
          let low : below target c'.state.depth ≡ true = still_below target c.state.depth c'.state.depth target_below still.above in
          judge_all (conditions_by target (pos m) c') (all_both (first_checks c') _ checked_again (ok, (low, tt)))

      pub resumed_by : run_by target (pos (n + m)) c ≡ counts_added first (run_by target (pos m) first.config)
      resumed_by =
          ap (λ (j : ℕ). run_after j P t (n + m) c) both_passed
          ∙ run_adds P n m t c
          ∙ ap (λ (a : RunAnswer). on_if_spent a (run_for P n t c) (λ c'. run_for P m t c')) run_spent
          ∙ ap (λ (r : Ran). counts_added r (run_for P m t r.config)) (sym first_is)
          ∙ ap (counts_added first) (sym (ap (λ (j : ℕ). run_after j P t m first.config) second_passed))

      pub passes_by : steps_by target (pos (n + m)) c ≡ steps_by target (pos n) c ++ steps_by target (pos m) first.config
      passes_by =
          ap (λ (j : ℕ). run_steps_after j P t (n + m) c) both_passed
          ∙ steps_add P n m t c run_spent
          ∙ ap (λ (r : Ran). run_steps P n t c ++ run_steps P m t r.config) (sym first_is)
          ∙ ap (λ (j : ℕ). run_steps P n t c ++ run_steps_after j P t m first.config) (sym second_passed)
          ∙ ap (λ (j : ℕ). run_steps_after j P t n c ++ steps_by target (pos m) first.config) (sym passed)

-- ---- the run that a host calls, by either engine: R-12's 37, which depends on no state, is between 13 and 28

abbrev room_for : Program → FileRecord → Conditions
room_for P r = (P.room otherwise 37) ∷ []

-- "From the same state and buffers, a run that ended, was refused or was handed over under one permitted limit gives the same outcome, count, state and
-- buffers under every larger permitted one." A run that 13, 37 or 29 refuses is such a one too, and is refused the same under the larger limit; 28 refuses
-- neither, both limits being permitted.
pub verdict_kept : (P : Program) (target : ℤ) (n m : ℕ) (c : Config) → Permitted c n → Permitted c m → n ≤ m
    → IsVerdict (run P target (pos n) c).answer → run P target (pos m) c ≡ run P target (pos n) c
unfolding run run_conditions
verdict_kept P target n m c p q h v = verdict_kept_by P (room_for P) target n m c p q h v

-- from a run that was spent, to any target, and in any state with the 31 frames that a context has
module _ (P : Program) (keeps : KeepsNumbers P) (target : ℤ) (n m : ℕ) (c : Config) (frames : greatest_depth ≤ length c.state.frames) where
  -- "A run that was spent after n"
  pub spent_after : (run P target (pos n) c).answer ≡ Spent → (run P target (pos n) c).count ≡ n
  unfolding run run_conditions
  spent_after spent = spent_after_by P (room_for P) target n c spent

  -- "A run that was spent after n, resumed to the same target with m and nothing changed between, equals a run of n plus m, counts added, where m and n
  -- plus m are permitted." The second run passes 13, 37 and 29 as the first did, and that n is permitted follows.
  abbrev pub Resumes : Type 0
  Resumes =
      (run P target (pos n) c).answer ≡ Spent → Permitted c m → Permitted c (n + m)
      → run P target (pos (n + m)) c ≡ counts_added (run P target (pos n) c) (run P target (pos m) (run P target (pos n) c).config)

  pub resumed : Resumes
  unfolding run run_conditions
  resumed spent p q = resumed_by P (room_for P) target n c spent keeps frames m p q

  -- For operators: what a spent run leaves, its depth, position and cells and all, is what the longer run passes through. Its statements are the first of the
  -- longer run's, and it leaves what the last of them does.
  pub passes_through : (run P target (pos n) c).answer ≡ Spent → Permitted c m → Permitted c (n + m)
      → (small_steps P (runs target (pos (n + m))) c
      ≡ small_steps P (runs target (pos n)) c ++ small_steps P (runs target (pos m)) (run P target (pos n) c).config)
      × (end_of c (small_steps P (runs target (pos n)) c) ≡ (run P target (pos n) c).config)
  unfolding run run_conditions small_steps
  passes_through spent p q = (passes_by P (room_for P) target n c spent keeps frames m p q, stands_by P (room_for P) target n c spent)

-- both engines are such programs, with the bytes of any file, and the second with any buffer
pub first_resumed : (file : List ℕ) (target : ℤ) (n m : ℕ) (c : Config) (frames : greatest_depth ≤ length c.state.frames)
    → Resumes (program_of file) (keeps_numbers file) target n m c frames
first_resumed file target n m c frames = resumed (program_of file) (keeps_numbers file) target n m c frames

pub second_resumed : (file buffer : List ℕ) (target : ℤ) (n m : ℕ) (c : Config) (frames : greatest_depth ≤ length c.state.frames)
    → Resumes (with_unpacked (program_of file) buffer) (unpacked_keeps_numbers file buffer) target n m c frames
second_resumed file buffer target n m c frames = resumed (with_unpacked (program_of file) buffer) (unpacked_keeps_numbers file buffer) target n m c frames
