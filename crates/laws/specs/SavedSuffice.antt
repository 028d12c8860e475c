-- THE SAVED CELLS SUFFICE, document 02's R-14: "After check 13 the saved cells always suffice for the function being left, since their number is the sum of
-- its locals and those beneath." In any program, from any state that passes 13, with the 31 frames that every context has: at the start of a call, after
-- each small step of it, and so before each leaving within a run and an abandonment.
use Prim.Native.Nat.{ℕ, zero, suc, ◌+◌, ◌-◌, ◌≤◌, ◌<◌}
use Rattle.std.specs.Prelude.{◌≡◌, List, [], ◌∷◌, Bool, true, false, ℤ, ◌+ℤ◌, length, get_or, set, eqb}
use Rattle.std.proofs.Math.Path.{refl}
use Rattle.std.proofs.Common.{◌∙◌, ap, arith, ltb-true}
use Rattle.std.proofs.Math.IntN.{pos}
use Rattle.definition.specs.Checks.{judge, Checked, refused, accepted}
use Rattle.definition.specs.File.{greatest_depth}
use Rattle.definition.specs.Statements.{place_of}
use Rattle.definition.specs.Machine.{Program, with_unpacked, function_of, Config, zero_frame, leave_conditions, left}
use Rattle.definition.specs.Machine.{Stepped, completed, refused_step, handed_step, step}
use Rattle.definition.specs.Operations.{entered_at, entered_functions, locals_of, sound, natural, host_enter, step_if, statement, run_conditions, carry_on}
use Rattle.definition.specs.Operations.{leavings_conditions, leavings_to, abandon_conditions, raw_write, write_all}
use Rattle.definition.specs.Calls.{Call, enters, steps, runs, runs_unpacked, carries, abandons, reads, writes, writes_all, lends, if_accepted, if_completed, unless_ended, steps_as, run_steps, run_steps_after, steps_of_run, leavings, leavings_after, small_steps}
use Rattle.definition.specs.CheckLaws.{All, WhenAccepted}
use Rattle.definition.proofs.CheckLaws.{judge_passed, all_front, all_back, guarded}
use Rattle.laws.specs.Entities.{WhenCompleted}
use Rattle.laws.specs.Sound.{entered_less, suffice}
use Rattle.laws.specs.Passing.{sound_passing, passing_stack}
use Rattle.laws.specs.StackLaws.{Stacked, stack_alike, advanced_stack, entered_stack, left_stack, step_stack}

pub record SavedSuffice (P : Program) (c : Config) : Type 0 where
  -- "their number is the sum of its locals and those beneath": of the functions that are entered still, once this one is left
  pub sum : c.state.saved ≡ (function_of P c.state.function).locals + locals_of P (entered_functions (left P c).state)
  -- "the saved cells always suffice for the function being left"
  pub suffices : (function_of P c.state.function).locals ≤ c.state.saved

-- where there is a function to be left
abbrev pub SufficesWhenEntered : Program → Config → Type 0
SufficesWhenEntered P c = 0 < c.state.depth → SavedSuffice P c

stack_suffices : (P : Program) (c : Config) → Stacked P c → SufficesWhenEntered P c
unfolding left entered_functions locals_of
stack_suffices P c k deep =
    let s = c.state in
    let one : s.depth ≡ suc (s.depth - 1) = omega arith in
    let rest : List ℕ = entered_at (s.depth - 1) (get_or s.frames (s.depth - 1) zero_frame).func_id (set s.frames (s.depth - 1) zero_frame) in
    let e : entered_at s.depth s.function s.frames ≡ s.function ∷ rest =
    ap (λ (m : ℕ). entered_at m s.function s.frames) one ∙ entered_less (s.depth - 1) s.function s.frames
    in
    record { sum = k.sum ∙ ap (locals_of P) e; suffices = suffice P s deep k }

-- what check 13 asks of the entered functions and the depths
pub sound_stack : (P : Program) (c : Config) → greatest_depth ≤ length c.state.frames → sound P c ≡ true → Stacked P c
sound_stack P c frames h = passing_stack P c (sound_passing P c frames h)

-- "After check 13"
pub after_13 : (P : Program) (c : Config) → greatest_depth ≤ length c.state.frames → sound P c ≡ true → SufficesWhenEntered P c
after_13 P c frames h = stack_suffices P c (sound_stack P c frames h)

-- ---- after every small step of every call

abbrev pub Each : (Config → Type 0) → List Config → Type 0
Each Q [] = Unit {0}
Each Q (c ∷ cs) = Q c × Each Q cs

each_of : (P : Program) (cs : List Config) → Each (Stacked P) cs → Each (SufficesWhenEntered P) cs
each_of P [] h = tt
each_of P (c ∷ cs) (h, hs) = (stack_suffices P c h, each_of P cs hs)

module _ (P : Program) where
  accepted_each : (x : Checked Config) → WhenAccepted (Stacked P) x → Each (Stacked P) (if_accepted x)
  accepted_each (refused n) h = tt
  accepted_each (accepted c) h = (h, tt)

  completed_each : (b : Bool) (s : Stepped) → WhenCompleted (Stacked P) s → Each (Stacked P) (if_completed (step_if b s))
  completed_each true (completed c) h = (h, tt)
  completed_each true (refused_step n) h = tt
  completed_each true (handed_step x) h = tt
  completed_each false s h = tt

  run_on : (b : Bool) (c : Config) (go : Config → List Config) → Stacked P c → ((c' : Config) → Stacked P c' → Each (Stacked P) (go c'))
      → Each (Stacked P) (unless_ended b c go)
  run_on true c go k h = tt
  run_on false c go k h = h c k

  run_as_law : (s : Stepped) (target : ℕ) (go : Config → List Config) → WhenCompleted (Stacked P) s → ((c' : Config) → Stacked P c' → Each (Stacked P) (go c'))
      → Each (Stacked P) (steps_as s target go)
  run_as_law (completed c') target go k h = (k, run_on (eqb c'.state.depth target) c' go k h)
  run_as_law (refused_step n) target go k h = tt
  run_as_law (handed_step x) target go k h = tt

  pub run_each : (n target : ℕ) (c : Config) → Stacked P c → Each (Stacked P) (run_steps P n target c)
  unfolding run_steps
  run_each zero target c k = tt
  run_each (suc n) target c k = run_as_law (step P c) target (λ c'. run_steps P n target c') (step_stack P c k) (λ c' k'. run_each n target c' k')

  leavings_each : (n : ℕ) (c : Config) → Stacked P c → All (leavings_conditions P n c) → Each (Stacked P) (leavings P n c)
  unfolding leavings leavings_conditions leave_conditions
  leavings_each zero c k h = tt
  leavings_each (suc n) c k h =
      let here = all_front (leave_conditions P c) (leavings_conditions P n (left P c)) h in
      let next = left_stack P c k (ltb-true 0 c.state.depth here.0) in
      (next, leavings_each n (left P c) next (all_back (leave_conditions P c) (leavings_conditions P n (left P c)) h))

  -- a call that check 13 passes
  module _ (c : Config) (k : Stacked P c) where
    run_after_each : (j target limit : ℕ) → Each (Stacked P) (run_steps_after j P target limit c)
    run_after_each zero target limit = run_each limit target c k
    run_after_each (suc j) target limit = tt

    abandon_each : (target : ℤ) → Each (Stacked P) (leavings_after (judge (abandon_conditions P target c)) P (leavings_to target c) c)
    unfolding abandon_conditions
    abandon_each target = go (judge (abandon_conditions P target c)) refl
      where
        go : (j : ℕ) → judge (abandon_conditions P target c) ≡ j → Each (Stacked P) (leavings_after j P (leavings_to target c) c)
        go zero e = leavings_each (leavings_to target c) c k (judge_passed (abandon_conditions P target c) e).1.1
        go (suc j) e = tt

-- a program with the same functions, as the second engine's is
each_alike : (P Q : Program) → Q.functions ≡ P.functions → (cs : List Config) → Each (Stacked P) cs → Each (Stacked Q) cs
each_alike P Q alike [] h = tt
each_alike P Q alike (c ∷ cs) (h, hs) = (stack_alike P Q alike c.state h, each_alike P Q alike cs hs)

module _ (P : Program) (c : Config) (k : Stacked P c) where
  stacked_each : (x : Call) → Each (Stacked P) (small_steps P x c)
  unfolding small_steps host_enter statement carry_on raw_write write_all
  stacked_each (enters f) = accepted_each P (host_enter P f c) (guarded (Stacked P) _ _ λ h. entered_stack P c (place_of (length P.functions) f) c.state.pc k h.1)
  stacked_each steps = completed_each P (sound P c) (step P c) (step_stack P c k)
  stacked_each (runs target limit) = run_after_each P c k (judge (run_conditions P target limit c)) (natural target) (natural limit)
  stacked_each (runs_unpacked buffer target limit) =
      let Q = with_unpacked P buffer in
      each_alike Q P refl (steps_of_run Q target limit c) (run_after_each Q c (stack_alike P Q refl c.state k) (judge (run_conditions Q target limit c)) (natural target) (natural limit))
  stacked_each carries = accepted_each P (carry_on P c) (guarded (Stacked P) _ _ λ h. advanced_stack P c (c.state.pc +ℤ pos 1) c.cells c.entities k)
  stacked_each (abandons target) = abandon_each P c k target
  stacked_each (reads a) = tt
  stacked_each (writes a v) = accepted_each P (raw_write P a v c) (guarded (Stacked P) _ _ λ h. k)
  stacked_each (writes_all numbers) = accepted_each P (write_all P numbers c) (guarded (Stacked P) _ _ λ h. k)
  stacked_each (lends entities) = (k, tt)

-- so each leaving of a run and of an abandonment finds cells enough: it comes at the start of the call, or after a small step of it
pub always_suffice : (P : Program) (c : Config) → greatest_depth ≤ length c.state.frames → sound P c ≡ true → (x : Call) → Each (SufficesWhenEntered P) (small_steps P x c)
always_suffice P c frames h x = each_of P (small_steps P x c) (stacked_each P c (sound_stack P c frames h) x)
