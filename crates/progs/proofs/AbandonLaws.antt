-- Leavings one after the other: what is left of them, on contexts and on whole configurations.
use Rattle.std.proofs.Common.{◌≡◌, ℕ, zero, suc, ◌-◌, ◌≤◌, ◌<◌, List, [], ◌++◌, true, cond, eqb, refl, sym, ◌∙◌, ap, arith, ne_eqb, leb-true}
use lib.Dec.{eqb-suc-zero}
use Rattle.definition.specs.declared.refusal.Refusal.{Refusal}
use Rattle.definition.specs.Checks.{Conditions, judge}
use Rattle.definition.specs.Refusals.{number}
use Rattle.definition.specs.Machine.{Program, State, Config, function_of, present, leave_conditions, left}
use Rattle.definition.specs.Load.{program_of}
use Rattle.definition.specs.Operations.{left_times, leavings_conditions}
use Rattle.definition.proofs.CheckLaws.{judge_passed, judge_append}
use Rattle.definition.proofs.RefusalLaws.{numbered}
use Rattle.progs.specs.declared.ExecutionContext.{ExecutionContext}
use Rattle.progs.specs.declared.calls.Locals.{Locals}
use Rattle.progs.specs.Contexts.{config, bare, range_of, Loaded, Lent}
use Rattle.progs.specs.Contexts.{left_context}

abbrev alone : State → Config
alone s = record { state = s; cells = []; saved = []; entities = [] }

-- the conditions depend on no cell
pub leavings_alone : (P : Program) (n : ℕ) (c : Config) → leavings_conditions P n c ≡ leavings_conditions P n (alone c.state)
unfolding leavings_conditions leave_conditions left
leavings_alone P zero c = refl
leavings_alone P (suc n) c = rw (leavings_alone P n (left P c), leavings_alone P n (left P (alone c.state)))

-- no refusal on the way is none at the first and none at the others
both_none : (m n : ℕ) → cond (eqb m 0) n m ≡ 0 → (m ≡ 0) × (n ≡ 0)
both_none zero n e = (refl, e)
both_none (suc m) n e = absurd (omega (arith, (rw (eqb-suc-zero m) at e)))

module _ (P : Program) (target : ℕ) where
  -- the number of the first refusal of the leavings down to the target
  abbrev pub first_refusal : ExecutionContext → ℕ
  first_refusal x = judge (leavings_conditions P (x.depth - target) (bare x))

  pub none_left : (x : ExecutionContext) → x.depth - target ≡ 0 → 0 ≡ first_refusal x
  unfolding leavings_conditions judge
  none_left x n = rw n

  pub all_left : (x : ExecutionContext) → x.depth - target ≡ 0 → (cells saved entities : List ℕ) → config x cells saved entities ≡ left_times P (x.depth - target) (config x cells saved entities)
  unfolding left_times
  all_left x n cells saved entities = rw n

  module _ (x : ExecutionContext) (l : Locals) (is : l ≡ range_of (function_of P x.current_function)) (more : target < x.depth) where
    abbrev here : ℕ
    here = judge (leave_conditions P (bare x))

    -- the context after one leaving
    abbrev next : ExecutionContext
    next = left_context x l.count

    one_more : x.depth - target ≡ suc (x.depth - 1 - target)
    one_more = omega arith

    leavings_first : first_refusal x ≡ cond (eqb here 0) (first_refusal next) here
    unfolding leavings_conditions left
    leavings_first =
        rw (one_more, is)
        (ap (λ (cs : Conditions). judge (leave_conditions P (bare x) ++ cs)) (leavings_alone P (x.depth - 1 - target) (left P (bare x)))
        ∙ judge_append (leave_conditions P (bare x)) (leavings_conditions P (x.depth - 1 - target) (alone (left P (bare x)).state)))

    pub leavings_refused : (r : Refusal) → number r ≡ here → number r ≡ first_refusal x
    leavings_refused r e = rw (leavings_first, ← e, ne_eqb (number r) 0 (numbered r))

    pub leavings_on : 0 ≡ here → first_refusal next ≡ first_refusal x
    leavings_on e = rw (leavings_first, ← e)

    -- what it is for none to refuse
    pub leaves_here : first_refusal x ≡ 0 → here ≡ 0
    leaves_here h = (both_none here (first_refusal next) (sym leavings_first ∙ h)).0

    pub present_here : first_refusal x ≡ 0 → (l.count ≤ x.saved) × (present l.start l.count x.file.globals.count ≡ true)
    unfolding leave_conditions
    present_here h =
        let passed = judge_passed (leave_conditions P (bare x)) (leaves_here h) in
        rw is (leb-true _ _ passed.1.0, passed.1.1.0)

    -- the same of the whole configuration
    pub times_on : (cells saved entities : List ℕ) (y : ExecutionContext) (cells' : List ℕ) → config y cells' saved entities ≡ left P (config x cells saved entities)
        → left_times P (y.depth - target) (config y cells' saved entities) ≡ left_times P (x.depth - target) (config x cells saved entities)
    unfolding left_times left
    times_on cells saved entities y cells' e =
        ap (λ (c : Config). left_times P (c.state.depth - target) c) e ∙ sym (ap (λ (k : ℕ). left_times P k (config x cells saved entities)) one_more)

-- ---- the loops, with so many turns left

pub record Checking (file : List ℕ) (target turns : ℕ) (first x : ExecutionContext) : Type 0 where
  pub turns_left : x.depth - target ≡ turns
  pub depth : x.depth ≤ 31
  pub loaded : Loaded file x.file
  -- the leavings that are left refuse what all of them do
  pub same : first_refusal (program_of file) target x ≡ first_refusal (program_of file) target first

pub record Unwinding (file : List ℕ) (target turns : ℕ) (store : List ℕ) (first x : ExecutionContext) (cells₀ cells : List ℕ) : Type 0 where
  pub turns_left : x.depth - target ≡ turns
  pub lent : Lent file x cells store
  -- none of the leavings that are left is refused, and they lead where all of them do
  pub clear : first_refusal (program_of file) target x ≡ 0
  pub leads : (entities : List ℕ) → left_times (program_of file) (x.depth - target) (config x cells store entities) ≡ left_times (program_of file) (first.depth - target) (config first cells₀ store entities)
