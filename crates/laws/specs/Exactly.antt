-- Demand 1, both halves, for every operation: accepted exactly where all the conditions of its row hold, refused n exactly where n's condition fails and
-- none before it does.
use Rattle.std.specs.Prelude.{ℕ, zero, suc, ◌+◌, ◌-◌, ◌≤◌, ◌≡◌, refl, List, [], ◌∷◌, Bool, true, false, ℤ, pos, negsuc, ◌+ℤ◌, length, get_or, set, ltb}
use Rattle.std.proofs.Common.{sym, ◌∙◌, ap, arith, ltb-true}
use Rattle.definition.specs.declared.Settings.{Settings}
use Rattle.definition.specs.declared.RunAnswer.TheVariants.{Refused}
use Rattle.definition.specs.Checks.{Condition, Conditions, ◌otherwise◌, judge, Checked, refused, accepted, guard}
use Rattle.definition.specs.File.{least_cells}
use Rattle.definition.specs.Statements.{Does, next, puts, calls, returns, refuses, hands_over, place_of}
use Rattle.definition.specs.Machine.{Program, Config, entities_of, count_of, with_cells, advanced, entry_conditions, entered, leave_conditions, left, return_conditions, returned, as_step, step_as, completed, refused_step, handed_step, step, Ran, run_for}
use Rattle.definition.specs.Load.{load_conditions, loaded, entities_given, load}
use Rattle.definition.specs.Operations.{sound, natural, below, host_enter, statement, run_conditions, run_after, run, carry_on_conditions, carry_on, left_times, leavings_conditions, leavings_to, abandon_conditions, abandon, raw_conditions, raw_read, raw_write, pairs_written, write_all_conditions, write_all}
use Rattle.definition.specs.CheckLaws.{All, FailsFirst, WhenAccepted}
use Rattle.definition.proofs.CheckLaws.{all_front, all_back, judge_all, judge_first, guard_accepts, accepted_all, guard_refuses, refused_first, guarded}

-- x is accepted, with a, exactly where all of cs hold, and refused exactly with the number of the first that fails
pub record Exactly {A : Type 0} (cs : Conditions) (a : A) (x : Checked A) : Type 0 where
  pub accepts : All cs → x ≡ accepted a
  pub accepts_only : (b : A) → x ≡ accepted b → All cs × (a ≡ b)
  pub refuses : (n : ℕ) → FailsFirst (suc n) cs → x ≡ refused (suc n)
  pub refuses_only : (n : ℕ) → x ≡ refused n → FailsFirst n cs

pub exactly : {A : Type 0} (cs : Conditions) (a : A) → Exactly cs a (guard cs a)
exactly cs a =
    record {
      accepts = guard_accepts cs a;
      accepts_only = λ b. accepted_all cs a b;
      refuses = guard_refuses cs a;
      refuses_only = refused_first cs a;
    }

pub load_exactly : (s : Settings) (file : List ℕ) (n : ℤ) (cells saved entities : List ℕ)
    → Exactly (load_conditions s file (entities_given n) (length cells) (length saved) (length entities)) (loaded s file (entities_given n) cells saved entities)
    (load s file n cells saved entities)
unfolding load
load_exactly s file n cells saved entities = exactly _ _

pub entry_exactly : (P : Program) (f : ℤ) (c : Config)
    → Exactly ((sound P c otherwise 13) ∷ entry_conditions P (place_of (length P.functions) f) c) (entered P (place_of (length P.functions) f) c.state.pc c) (host_enter P f c)
unfolding host_enter
entry_exactly P f c = exactly _ _

pub carry_on_exactly : (P : Program) (c : Config) → Exactly (carry_on_conditions P c) (advanced c (c.state.pc +ℤ pos 1) c.cells c.entities) (carry_on P c)
unfolding carry_on
carry_on_exactly P c = exactly _ _

pub abandon_exactly : (P : Program) (target : ℤ) (c : Config) → Exactly (abandon_conditions P target c) (left_times P (leavings_to target c) c) (abandon P target c)
unfolding abandon
abandon_exactly P target c = exactly _ _

pub read_exactly : (P : Program) (a : ℤ) (c : Config) → Exactly (raw_conditions P a c) (get_or c.cells (natural a) 0) (raw_read P a c)
unfolding raw_read
read_exactly P a c = exactly _ _

pub write_exactly : (P : Program) (a : ℤ) (v : ℕ) (c : Config) → Exactly (raw_conditions P a c) (with_cells c (set c.cells (natural a) v)) (raw_write P a v c)
unfolding raw_write
write_exactly P a v c = exactly _ _

pub write_all_exactly : (P : Program) (numbers : List ℤ) (c : Config)
    → Exactly (write_all_conditions P numbers c) (with_cells c (pairs_written numbers c.cells)) (write_all P numbers c)
unfolding write_all
write_all_exactly P numbers c = exactly _ _

-- one statement: 13 first, and then what the bytes say it does
pub statement_exactly : (P : Program) (c : Config) → ((sound P c ≡ true) → statement P c ≡ step P c) × ((sound P c ≡ false) → statement P c ≡ refused_step 13)
unfolding statement
statement_exactly P c = (λ e. rw e, λ e. rw e)

-- "A Call records the position after itself"
abbrev pub Done : Program → Config → Does → Type 0
Done P c (next p cells) = step P c ≡ completed (advanced c p cells c.entities)
Done P c (puts p entities) = step P c ≡ completed (advanced c p c.cells entities)
Done P c (calls f) =
    (All (entry_conditions P f c) → step P c ≡ completed (entered P f (c.state.pc +ℤ pos 1) c))
    × ((n : ℕ) → FailsFirst (suc n) (entry_conditions P f c) → step P c ≡ refused_step (suc n))
Done P c (returns a) =
    (All (return_conditions P a c) → step P c ≡ completed (returned P a c)) × ((n : ℕ) → FailsFirst (suc n) (return_conditions P a c) → step P c ≡ refused_step (suc n))
Done P c (refuses n) = step P c ≡ refused_step n
Done P c (hands_over h) = step P c ≡ handed_step h

pub step_exactly : (P : Program) (c : Config) (x : Does) → P.does c.state.pc (entities_of c) c.cells ≡ x → Done P c x
unfolding step step_as
step_exactly P c (next p cells) is = rw is
step_exactly P c (puts p entities) is = rw is
step_exactly P c (calls f) is = (
  λ h. rw is (ap as_step (guard_accepts (entry_conditions P f c) (entered P f (c.state.pc +ℤ pos 1) c) h)),
  λ n x. rw is (ap as_step (guard_refuses (entry_conditions P f c) (entered P f (c.state.pc +ℤ pos 1) c) n x)),
)
step_exactly P c (returns a) is = (
  λ h. rw is (ap as_step (guard_accepts (return_conditions P a c) (returned P a c) h)),
  λ n f. rw is (ap as_step (guard_refuses (return_conditions P a c) (returned P a c) n f)),
)
step_exactly P c (refuses n) is = rw is
step_exactly P c (hands_over h) is = rw is

-- a run begins exactly where its row's conditions hold; otherwise it is refused with count 0 and changes nothing
pub run_exactly : (P : Program) (target limit : ℤ) (c : Config)
    → (All (run_conditions P target limit c) → run P target limit c ≡ run_for P (natural limit) (natural target) c)
    × ((n : ℕ) → FailsFirst (suc n) (run_conditions P target limit c) → run P target limit c ≡ record { answer = Refused (suc n); count = 0; config = c })
unfolding run
run_exactly P target limit c = (
  λ h. rw (judge_all (run_conditions P target limit c) h),
  λ n f. rw (judge_first (run_conditions P target limit c) (suc n) f),
)

-- ---- an accepted abandonment ends at its target

left_depth : (P : Program) (n : ℕ) (c : Config) → (left_times P n c).state.depth ≡ c.state.depth - n
unfolding left_times left
left_depth P zero c = omega arith
left_depth P (suc n) c = omega (arith, left_depth P n (left P c))

pub abandon_ends : (P : Program) (target : ℤ) (c : Config) → WhenAccepted (λ (c' : Config). c'.state.depth ≡ natural target) (abandon P target c)
unfolding abandon abandon_conditions
abandon_ends P target c =
    guarded (λ (c' : Config). c'.state.depth ≡ natural target) _ _ λ h.
    omega (arith, left_depth P (leavings_to target c) c, in_depth target h.1.0)
  where
    in_depth : (t : ℤ) → below t (c.state.depth + 1) ≡ true → natural t ≤ c.state.depth
    in_depth (pos i) e = omega (arith, ltb-true i (c.state.depth + 1) e)
    in_depth (negsuc i) e = omega arith

-- ---- an accepted abandonment could leave each of its functions, the outermost too

abbrev pub LeavesEach : Program → ℕ → Config → Type 0
LeavesEach P zero c = Unit {0}
LeavesEach P (suc n) c = All (leave_conditions P c) × LeavesEach P n (left P c)

leaves_each_law : (P : Program) (n : ℕ) (c : Config) → All (leavings_conditions P n c) → LeavesEach P n c
unfolding leavings_conditions
leaves_each_law P zero c h = tt
leaves_each_law P (suc n) c h =
    (all_front (leave_conditions P c) (leavings_conditions P n (left P c)) h, leaves_each_law P n (left P c) (all_back (leave_conditions P c) (leavings_conditions P n (left P c)) h))

pub abandon_leaves : (P : Program) (target : ℤ) (c c' : Config) → abandon P target c ≡ accepted c' → LeavesEach P (leavings_to target c) c
unfolding abandon_conditions
abandon_leaves P target c c' e = leaves_each_law P (leavings_to target c) c ((abandon_exactly P target c).accepts_only c' e).0.1.1
