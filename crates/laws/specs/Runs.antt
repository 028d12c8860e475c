-- What a run's answer says, and what a call leaves.
use Prim.Native.Nat.{ℕ, zero, suc, ◌+◌, ◌≤◌, ◌<◌}
use Rattle.std.specs.Prelude.{◌≡◌, List, Bool, true, false, ℤ, eqb}
use Rattle.std.proofs.Math.Path.{refl}
use Rattle.std.proofs.Common.{sym, ◌∙◌, ap, arith, eqb-true, eq-eqb}
use Rattle.definition.specs.declared.Handover.{Handover}
use Rattle.definition.specs.declared.RunAnswer.{RunAnswer}
use Rattle.definition.specs.declared.RunAnswer.TheVariants.{Ended, Spent, Refused, HandedOver}
use Rattle.definition.specs.Machine.{Program, with_unpacked, Config, with_entities, Stepped, completed, refused_step, handed_step, step, Ran, one_more, go_on, run_as, run_for}
use Rattle.definition.specs.Operations.{host_enter, statement, run, carry_on, abandon, raw_write, write_all}
use Rattle.definition.specs.Answers.{kept, statement_outcome}
use Rattle.definition.specs.Calls.{enters, steps, runs, runs_unpacked, carries, abandons, reads, writes, writes_all, lends, after}
use Rattle.laws.specs.Entities.{WhenCompleted}

-- "Spent is given when the limit's statements are completed and the target isn't reached"; a run that ended stands at its target; one that was refused
-- or handed over stands at a statement that is
abbrev pub Says : Program → ℕ → ℕ → RunAnswer → ℕ → Config → Type 0
Says P limit target Ended count c = (c.state.depth ≡ target) × (count ≤ limit)
Says P limit target Spent count c = count ≡ limit
Says P limit target (Refused n) count c = (step P c ≡ refused_step n) × (count < limit)
Says P limit target (HandedOver h) count c = (step P c ≡ handed_step h) × (count < limit)

says_more : (P : Program) (limit target : ℕ) (x : RunAnswer) (count : ℕ) (c : Config) → Says P limit target x count c → Says P (suc limit) target x (count + 1) c
says_more P limit target Ended count c (d, most) = (d, omega arith)
says_more P limit target Spent count c e = omega arith
says_more P limit target (Refused n) count c (e, less) = (e, omega arith)
says_more P limit target (HandedOver h) count c (e, less) = (e, omega arith)

module _ (P : Program) (n target : ℕ) (rest : Config → Ran)
    (says : (c : Config) → Says P n target (rest c).answer (rest c).count (rest c).config) where
  after_one : (c : Config) (b : Bool) → eqb c.state.depth target ≡ b
      → Says P (suc n) target (one_more (go_on b c rest)).answer (one_more (go_on b c rest)).count (one_more (go_on b c rest)).config
  after_one c true e = (eqb-true c.state.depth target e, omega arith)
  after_one c false e = says_more P n target (rest c).answer (rest c).count (rest c).config (says c)

  after_step : (c : Config) (s : Stepped) → step P c ≡ s
      → Says P (suc n) target (run_as s target c rest).answer (run_as s target c rest).count (run_as s target c rest).config
  after_step c (completed c') e = after_one c' (eqb c'.state.depth target) refl
  after_step c (refused_step m) e = (e, omega arith)
  after_step c (handed_step h) e = (e, omega arith)

pub run_says : (P : Program) (n target : ℕ) (c : Config) → Says P n target (run_for P n target c).answer (run_for P n target c).count (run_for P n target c).config
unfolding run_for
run_says P zero target c = refl
run_says P (suc n) target c = after_step P n target (λ c'. run_for P n target c') (λ c'. run_says P n target c') c (step P c) refl

-- "A run goes on until the call depth equals a target": it ends with the first statement that reaches it, and with no other
pub run_ends : (P : Program) (n target : ℕ) (c c' : Config) → step P c ≡ completed c' → c'.state.depth ≡ target
    → run_for P (suc n) target c ≡ record { answer = Ended; count = 1; config = c' }
unfolding run_for
run_ends P n target c c' e d = rw (e, eq-eqb c'.state.depth target d)

pub run_goes_on : (P : Program) (n target : ℕ) (c c' : Config) → step P c ≡ completed c' → eqb c'.state.depth target ≡ false
    → run_for P (suc n) target c ≡ one_more (run_for P n target c')
unfolding run_for
run_goes_on P n target c c' e d = rw (e, d)

-- ---- a run: what every statement that doesn't reach the target keeps, holds where the run stops without having ended

abbrev pub UnlessEnded : RunAnswer → Type 0 → Type 0
UnlessEnded Ended A = Unit {0}
UnlessEnded Spent A = A
UnlessEnded (Refused n) A = A
UnlessEnded (HandedOver h) A = A

-- of a statement that completes without reaching the target
abbrev pub WhenShort : ℕ → (Config → Type 0) → Stepped → Type 0
WhenShort target Q s = WhenCompleted (λ (c : Config). eqb c.state.depth target ≡ false → Q c) s

module _ (P : Program) (target : ℕ) (K : Config → Type 0) (kept : (c : Config) → K c → WhenShort target K (step P c)) where
  abbrev Kept : Ran → Type 0
  Kept r = UnlessEnded r.answer (K r.config)

  kept_on : (c : Config) (b : Bool) (rest : Config → Ran) → eqb c.state.depth target ≡ b → (eqb c.state.depth target ≡ false → K c)
      → ((c' : Config) → K c' → Kept (rest c')) → Kept (one_more (go_on b c rest))
  kept_on c true rest e k go = tt
  kept_on c false rest e k go = go c (k e)

  kept_as : (s : Stepped) (c : Config) (rest : Config → Ran) → K c → WhenShort target K s → ((c' : Config) → K c' → Kept (rest c')) → Kept (run_as s target c rest)
  kept_as (completed c') c rest k h go = kept_on c' (eqb c'.state.depth target) rest refl h go
  kept_as (refused_step n) c rest k h go = k
  kept_as (handed_step x) c rest k h go = k

  pub run_keeps : (n : ℕ) (c : Config) → K c → Kept (run_for P n target c)
  unfolding run_for
  run_keeps zero c k = k
  run_keeps (suc n) c k = kept_as (step P c) c (λ c'. run_for P n target c') k (kept c k) (λ c' k'. run_keeps n c' k')

-- what every completed statement keeps is kept by those that don't reach a target
pub always_short : (target : ℕ) (Q : Config → Type 0) (s : Stepped) → WhenCompleted Q s → WhenShort target Q s
always_short target Q (completed c) h = λ e. h
always_short target Q (refused_step n) h = tt
always_short target Q (handed_step x) h = tt

-- ---- what a call of demand 3's lists leaves is what the operation of demand 2 gives

module _ (P : Program) (c : Config) where
  pub enters_leaves : (f : ℤ) → after P (enters f) c ≡ kept c (host_enter P f c)
  unfolding after
  enters_leaves f = refl

  pub steps_leaves : after P steps c ≡ (statement_outcome c (statement P c)).config
  unfolding after
  steps_leaves = refl

  pub runs_leaves : (target limit : ℤ) → after P (runs target limit) c ≡ (run P target limit c).config
  unfolding after
  runs_leaves target limit = refl

  pub runs_unpacked_leaves : (buffer : List ℕ) (target limit : ℤ) → after P (runs_unpacked buffer target limit) c ≡ (run (with_unpacked P buffer) target limit c).config
  unfolding after
  runs_unpacked_leaves buffer target limit = refl

  pub carries_leaves : after P carries c ≡ kept c (carry_on P c)
  unfolding after
  carries_leaves = refl

  pub abandons_leaves : (target : ℤ) → after P (abandons target) c ≡ kept c (abandon P target c)
  unfolding after
  abandons_leaves target = refl

  pub reads_leaves : (a : ℤ) → after P (reads a) c ≡ c
  unfolding after
  reads_leaves a = refl

  pub writes_leaves : (a : ℤ) (v : ℕ) → after P (writes a v) c ≡ kept c (raw_write P a v c)
  unfolding after
  writes_leaves a v = refl

  pub writes_all_leaves : (numbers : List ℤ) → after P (writes_all numbers) c ≡ kept c (write_all P numbers c)
  unfolding after
  writes_all_leaves numbers = refl

  pub lends_leaves : (entities : List ℕ) → after P (lends entities) c ≡ with_entities c entities
  unfolding after
  lends_leaves entities = refl
