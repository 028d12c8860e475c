-- NO OPERATION IS REFUSED 26, document 02's R-14: on any state with the 31 frames that every context has, and the bytes of any file.
use Prim.Native.Nat.{ℕ, zero, suc, ◌+◌, ◌-◌, ◌≤◌}
use Rattle.std.specs.Prelude.{◌≡◌, ◌≢◌, List, [], ◌∷◌, ◌++◌, cond, ℤ, ◌+ℤ◌, length}
use Rattle.std.proofs.Math.Path.{refl}
use Rattle.std.proofs.Common.{sym, subst, ltb-true, le-leb}
use Rattle.std.proofs.Math.Bool.{Bool, true, false}
use Rattle.std.proofs.lemmas.Bool.{false≢true}
use Rattle.std.proofs.Math.IntN.{pos}
use lib.Dec.{eqb, ltb, leb}
use Rattle.definition.specs.declared.RunAnswer.{RunAnswer}
use Rattle.definition.specs.declared.RunAnswer.TheVariants.{Ended, Spent, Refused, HandedOver}
use Rattle.definition.specs.Checks.{Conditions, ◌otherwise◌, judge, Checked, refused, accepted, decided, guard}
use Rattle.definition.specs.File.{greatest_depth, contents_at, file_of, unpacked_statements, with_statements}
use Rattle.definition.specs.Statements.{Entities, Does, next, puts, calls, returns, refuses, hands_over, place_of, does_at}
use Rattle.definition.specs.Machine.{Program, with_unpacked, function_of, Config, entities_of, count_of, present, entry_conditions, enter, leave_conditions, left, return_conditions, returned}
use Rattle.definition.specs.Machine.{Stepped, completed, refused_step, handed_step, as_step, step_as, step, run_for}
use Rattle.definition.specs.Load.{program_with, program_of}
use Rattle.definition.specs.Operations.{sound, natural, below, host_enter, step_if, statement, run_conditions, run_after, run, carry_on_conditions, carry_on, leavings_conditions, leavings_to, abandon_conditions, abandon}
use Rattle.definition.specs.Operations.{raw_read, raw_write, pair_conditions, pairs_conditions, write_all}
use Rattle.definition.specs.CheckLaws.{All}
use Rattle.definition.proofs.CheckLaws.{judge_passed, judge_append}
use Rattle.laws.specs.Runs.{Says, run_says, UnlessEnded, run_keeps, always_short}
use Rattle.laws.specs.Sound.{suffice}
use Rattle.laws.specs.StackLaws.{Stacked, left_stack, step_stack}
use Rattle.laws.specs.SavedSuffice.{sound_stack}
use Rattle.laws.specs.StatementNumbers.{withdrawn, Without, without_both, judge_without, NotWithdrawn, numbers_not_withdrawn, one_without, fetch_without, does_numbers}

-- ---- of a number, and of what an operation gives

abbrev Other : ℕ → Type 0
Other n = eqb n withdrawn ≡ false

abbrev OtherChecked : {A : Type 0} → Checked A → Type 0
OtherChecked (refused n) = Other n
OtherChecked (accepted a) = Unit {0}

abbrev OtherStep : Stepped → Type 0
OtherStep (completed c) = Unit {0}
OtherStep (refused_step n) = Other n
OtherStep (handed_step h) = Unit {0}

abbrev OtherAnswer : RunAnswer → Type 0
OtherAnswer Ended = Unit {0}
OtherAnswer Spent = Unit {0}
OtherAnswer (Refused n) = Other n
OtherAnswer (HandedOver h) = Unit {0}

guard_other : {A : Type 0} (cs : Conditions) (a : A) → Other (judge cs) → OtherChecked (guard cs a)
unfolding guard
guard_other cs a h = go (judge cs) h
  where
    go : (n : ℕ) → Other n → OtherChecked (decided n a)
    go zero h = tt
    go (suc n) h = h

as_step_other : (x : Checked Config) → OtherChecked x → OtherStep (as_step x)
as_step_other (refused n) h = h
as_step_other (accepted c) h = tt

-- one list of conditions after another, of which the second counts where the first holds
append_other : (cs ds : Conditions) → Other (judge cs) → (judge cs ≡ 0 → Other (judge ds)) → Other (judge (cs ++ ds))
append_other cs ds h k = subst Other (sym (judge_append cs ds)) (go (judge cs) refl h)
  where
    go : (n : ℕ) → judge cs ≡ n → Other n → Other (cond (eqb n 0) (judge ds) n)
    go zero e o = k e
    go (suc n) e o = rw (lib.Dec.eqb-suc-zero n) o

-- ---- what is asked of a program: its fetch and its statements have other numbers

pub record NotWithdrawnBy (P : Program) : Type 0 where
  pub fetching : (p : ℤ) → Without (P.fetching p)
  pub statements : (p : ℤ) (e : Entities) (cells : List ℕ) → NotWithdrawn (P.does p e cells)

module _ (P : Program) (others : NotWithdrawnBy P) where
  -- ---- entries and leavings

  entry_without : (f : ℕ) (c : Config) → Without (entry_conditions P f c)
  unfolding Without entry_conditions
  entry_without f c = (refl, (refl, (refl, (refl, (refl, (refl, (refl, tt)))))))

  -- a leaving: above depth 0 the saved cells suffice, and at depth 0 it is refused 25
  leave_other : (c : Config) → Stacked P c → Other (judge (leave_conditions P c))
  unfolding leave_conditions judge
  leave_other c k = go (ltb 0 c.state.depth) refl
    where
      d : ℕ
      d = (function_of P c.state.function).locals

      there : Bool
      there = present (function_of P c.state.function).start d (count_of c)

      last : (b : Bool) → Other (judge ((b otherwise 15) ∷ []))
      last true = refl
      last false = refl

      go : (b : Bool) → ltb 0 c.state.depth ≡ b → Other (judge ((b otherwise 25) ∷ (leb d c.state.saved otherwise 26) ∷ (there otherwise 15) ∷ []))
      go true e = rw (le-leb d c.state.saved (suffice P c.state (ltb-true 0 c.state.depth e) k)) (last there)
      go false e = refl

  leavings_other : (n : ℕ) (c : Config) → Stacked P c → Other (judge (leavings_conditions P n c))
  unfolding leavings_conditions judge leave_conditions
  leavings_other zero c k = refl
  leavings_other (suc n) c k =
      append_other (leave_conditions P c) (leavings_conditions P n (left P c)) (leave_other c k)
      (λ e. leavings_other n (left P c) (left_stack P c k (ltb-true 0 c.state.depth (judge_passed (leave_conditions P c) e).0)))

  -- ---- statements and runs

  step_as_other : (x : Does) (c : Config) → NotWithdrawn x → Stacked P c → OtherStep (step_as P x c)
  unfolding step_as judge leave_conditions
  step_as_other (next p cells) c o k = tt
  step_as_other (puts p entities) c o k = tt
  step_as_other (calls f) c o k = as_step_other (enter P f (c.state.pc +ℤ pos 1) c) (guard_other (entry_conditions P f c) _ (judge_without _ (entry_without f c)))
  step_as_other (returns a) c o k =
      as_step_other (guard (return_conditions P a c) (returned P a c)) (guard_other (return_conditions P a c) (returned P a c) (go (present a 3 (count_of c))))
    where
      go : (b : Bool) → Other (judge ((b otherwise 15) ∷ leave_conditions P c))
      go true = leave_other c k
      go false = refl
  step_as_other (refuses n) c o k = o
  step_as_other (hands_over h) c o k = tt

  step_other : (c : Config) → Stacked P c → OtherStep (step P c)
  unfolding step
  step_other c k = step_as_other (P.does c.state.pc (entities_of c) c.cells) c (others.statements c.state.pc (entities_of c) c.cells) k

  run_for_other : (n target : ℕ) (c : Config) → Stacked P c → OtherAnswer (run_for P n target c).answer
  run_for_other n target c k =
      go (run_for P n target c).answer (run_says P n target c)
      (run_keeps P target (Stacked P) (λ c₁ k₁. always_short target (Stacked P) (step P c₁) (step_stack P c₁ k₁)) n c k)
    where
      c' : Config
      c' = (run_for P n target c).config

      go : (a : RunAnswer) → Says P n target a (run_for P n target c).count c' → UnlessEnded a (Stacked P c') → OtherAnswer a
      go Ended says k' = tt
      go Spent says k' = tt
      go (Refused m) says k' = subst OtherStep says.0 (step_other c' k')
      go (HandedOver h) says k' = tt

  -- a run after its conditions, of which 13's is one
  pub run_after_other : (cs : Conditions) (target limit : ℕ) (c : Config) → Without cs → (All cs → Stacked P c) → OtherAnswer (run_after (judge cs) P target limit c).answer
  run_after_other cs target limit c w k = go (judge cs) refl
    where
      go : (j : ℕ) → judge cs ≡ j → OtherAnswer (run_after j P target limit c).answer
      go zero e = run_for_other limit target c (k (judge_passed cs e))
      go (suc j) e = subst Other e (judge_without cs w)

-- ---- the operations

pub record NeverTwentySix (P : Program) (c : Config) : Type 0 where
  pub entry : (f : ℤ) → host_enter P f c ≢ refused 26
  pub one_statement : statement P c ≢ refused_step 26
  pub a_run : (target limit : ℤ) → (run P target limit c).answer ≢ Refused 26
  pub carrying_on : carry_on P c ≢ refused 26
  pub abandonment : (target : ℤ) → abandon P target c ≢ refused 26
  pub raw_read_law : (a : ℤ) → raw_read P a c ≢ refused 26
  pub raw_write_law : (a : ℤ) (v : ℕ) → raw_write P a v c ≢ refused 26
  pub pairs_written_law : (numbers : List ℤ) → write_all P numbers c ≢ refused 26

not_checked : {A : Type 0} (x : Checked A) → OtherChecked x → x ≢ refused 26
not_checked x h e = false≢true (sym (subst OtherChecked e h))

not_stepped : (s : Stepped) → OtherStep s → s ≢ refused_step 26
not_stepped s h e = false≢true (sym (subst OtherStep e h))

not_answered : (a : RunAnswer) → OtherAnswer a → a ≢ Refused 26
not_answered a h e = false≢true (sym (subst OtherAnswer e h))

-- check 13 and then what has no 26 where 13 passed
sound_other : (b : Bool) (cs : Conditions) → (b ≡ true → Other (judge cs)) → Other (judge ((b otherwise 13) ∷ cs))
unfolding judge
sound_other true cs h = h refl
sound_other false cs h = refl

pairs_without : (count : ℕ) (numbers : List ℤ) → Without (pair_conditions count numbers)
unfolding Without pair_conditions
pairs_without count [] = tt
pairs_without count (a ∷ []) = tt
pairs_without count (a ∷ v ∷ numbers) = (refl, (refl, pairs_without count numbers))

module _ (P : Program) (others : NotWithdrawnBy P) (c : Config) (frames : greatest_depth ≤ length c.state.frames) where
  abbrev Checks : Conditions → Type 0
  Checks cs = Other (judge cs)

  stack : sound P c ≡ true → Stacked P c
  stack h = sound_stack P c frames h

  entry_other : (f : ℕ) → Checks ((sound P c otherwise 13) ∷ entry_conditions P f c)
  entry_other f = sound_other (sound P c) (entry_conditions P f c) (λ h. judge_without _ (entry_without P others f c))

  statement_other : OtherStep (statement P c)
  unfolding statement
  statement_other = go (sound P c) refl
    where
      go : (b : Bool) → sound P c ≡ b → OtherStep (step_if b (step P c))
      go true e = step_other P others c (stack e)
      go false e = refl

  run_other : (target limit : ℤ) → OtherAnswer (run P target limit c).answer
  unfolding run run_conditions Without
  run_other target limit =
      run_after_other P others (run_conditions P target limit c) (natural target) (natural limit) c (refl, (refl, (refl, (refl, tt)))) (λ h. stack h.0)

  carry_on_other : Checks (carry_on_conditions P c)
  unfolding carry_on_conditions Without
  carry_on_other = judge_without _ (refl, without_both (P.fetching c.state.pc) _ (others.fetching c.state.pc) (refl, tt))

  abandon_other : (target : ℤ) → Checks (abandon_conditions P target c)
  unfolding abandon_conditions
  abandon_other target =
      let low : Bool = below target (c.state.depth + 1) in
      sound_other (sound P c) _
      (λ h. append_other ((low otherwise 29) ∷ []) (leavings_conditions P (leavings_to target c) c) (judge_without _ (one_without low 29 refl))
      (λ e. leavings_other P others (leavings_to target c) c (stack h)))

  pub never_26_by : NeverTwentySix P c
  unfolding host_enter carry_on abandon raw_read raw_write write_all pairs_conditions Without
  never_26_by =
      record {
        entry = λ f. not_checked _ (guard_other _ _ (entry_other (place_of (length P.functions) f)));
        one_statement = not_stepped _ statement_other;
        a_run = λ target limit. not_answered _ (run_other target limit);
        carrying_on = not_checked _ (guard_other _ _ carry_on_other);
        abandonment = λ target. not_checked _ (guard_other _ _ (abandon_other target));
        raw_read_law = λ a. not_checked _ (guard_other _ _ (judge_without _ (refl, (refl, tt))));
        raw_write_law = λ a v. not_checked _ (guard_other _ _ (judge_without _ (refl, (refl, tt))));
        pairs_written_law = λ numbers. not_checked _ (guard_other _ _ (judge_without _ (refl, (refl, (refl, pairs_without (count_of c) numbers)))));
      }

pub file_not_withdrawn : (file : List ℕ) → NotWithdrawnBy (program_of file)
unfolding program_with
file_not_withdrawn file =
    let k = contents_at (file_of file) file in
    record {
      fetching = λ p. fetch_without k.statements p;
      statements = λ p e cells. numbers_not_withdrawn e cells (does_at k p e cells) (does_numbers k p e cells);
    }

-- "26 isn't used again for anything": by any operation on any state, and the bytes of any file
pub never_26 : (file : List ℕ) (c : Config) → greatest_depth ≤ length c.state.frames → NeverTwentySix (program_of file) c
never_26 file c frames = never_26_by (program_of file) (file_not_withdrawn file) c frames

-- and by the second engine, whatever its buffer holds
pub unpacked_not_withdrawn : (file buffer : List ℕ) → NotWithdrawnBy (with_unpacked (program_of file) buffer)
unfolding program_with
unpacked_not_withdrawn file buffer =
    let k = with_statements (contents_at (file_of file) file) (unpacked_statements buffer (file_of file).statements.count) in
    record {
      fetching = λ p. fetch_without k.statements p;
      statements = λ p e cells. numbers_not_withdrawn e cells (does_at k p e cells) (does_numbers k p e cells);
    }

pub never_26_unpacked : (file buffer : List ℕ) (c : Config) → greatest_depth ≤ length c.state.frames → NeverTwentySix (with_unpacked (program_of file) buffer) c
never_26_unpacked file buffer c frames = never_26_by (with_unpacked (program_of file) buffer) (unpacked_not_withdrawn file buffer) c frames
