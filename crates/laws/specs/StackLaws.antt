-- What check 13 asks of the entered functions and of the two depths stays so, in any program: from any state of which it holds, with the 31 frames that every
-- context has, every completed statement, entry and leaving leads to one of which it holds too.
use Rattle.std.specs.Prelude.{ℕ, suc, ◌+◌, ◌-◌, ◌≤◌, ◌<◌, ◌≡◌, true, not, ◌&&◌, ℤ, ◌+ℤ◌, length, get_or, set, leb, ltb}
use Rattle.std.proofs.Common.{◌∙◌, ap, sym, arith, ltb-true, leb-true, length-set}
use Rattle.std.proofs.Math.Path.{refl}
use mathlib.Core.List.{List, [], ◌∷◌}
use Rattle.std.proofs.Math.IntN.{pos}
use Rattle.definition.specs.declared.StackFrame.{StackFrame}
use Rattle.definition.specs.Checks.{guard}
use Rattle.definition.specs.File.{negative}
use Rattle.definition.specs.Statements.{Does, next, puts, calls, returns, refuses, hands_over}
use Rattle.definition.specs.Machine.{Program, function_of, State, Config, entities_of, zero_frame, copied, successive, with_cells, advanced}
use Rattle.definition.specs.Machine.{entry_conditions, entered, enter, leave_conditions, left, return_conditions, returned, step_as, step}
use Rattle.definition.specs.Operations.{entered_at, entered_functions, all_present, locals_of}
use Rattle.definition.specs.CheckLaws.{All}
use Rattle.definition.proofs.CheckLaws.{and_left, and_right, guarded}
use Rattle.laws.specs.Entities.{WhenCompleted, as_step_law}
use Rattle.laws.specs.Sound.{StackConsistent, depth_bound, entered_more, entered_less}

-- of a state, that of a configuration
abbrev pub Stacked : Program → Config → Type 0
Stacked P c = StackConsistent P c.state

-- programs with the same functions, whatever their statements are
module _ (P Q : Program) (alike : Q.functions ≡ P.functions) where
  pub present_alike : (fs : List ℕ) → all_present Q fs ≡ all_present P fs
  unfolding all_present
  present_alike [] = refl
  present_alike (f ∷ fs) = rw (present_alike fs, alike) refl

  pub locals_alike : (fs : List ℕ) → locals_of Q fs ≡ locals_of P fs
  unfolding locals_of
  locals_alike [] = refl
  locals_alike (f ∷ fs) = rw (locals_alike fs, alike) refl

  pub stack_alike : (s : State) → StackConsistent P s → StackConsistent Q s
  stack_alike s k =
      record {
        room = k.room;
        fit = k.fit;
        depth_most = k.depth_most;
        all = present_alike (entered_functions s) ∙ k.all;
        sum = k.sum ∙ sym (locals_alike (entered_functions s));
        saved_most = k.saved_most;
      }

-- another position, and the like, is no part of it
pub advanced_stack : (P : Program) (c : Config) (p : ℤ) (cells entities : List ℕ) → Stacked P c → Stacked P (advanced c p cells entities)
unfolding entered_functions
advanced_stack P c p cells entities k = record { room = k.room; fit = k.fit; depth_most = k.depth_most; all = k.all; sum = k.sum; saved_most = k.saved_most }

pub entered_stack : (P : Program) (c : Config) (f : ℕ) (back : ℤ) → StackConsistent P c.state → All (entry_conditions P f c)
    → StackConsistent P (entered P f back c).state
unfolding entry_conditions entered entered_functions all_present locals_of
entered_stack P c f back k h =
    let d = function_of P f in
    let s = c.state in
    let shallow : s.depth < s.settings.depth = ltb-true s.depth s.settings.depth h.1.0 in
    let positive : not (negative d.locals) ≡ true = and_left (not (negative d.locals)) (leb (s.saved + d.locals) s.settings.saved) h.1.1.0 in
    let fits : s.saved + d.locals ≤ s.settings.saved = leb-true _ _ (and_right (not (negative d.locals)) (leb (s.saved + d.locals) s.settings.saved) h.1.1.0) in
    let frame : StackFrame = record { instr_id = back; func_id = s.function } in
    let e : entered_at (s.depth + 1) f (set s.frames s.depth frame) ≡ f ∷ entered_at s.depth s.function s.frames =
    rw native.Mathlib.Numerals.add-one (entered_more s.depth f s.frames frame (omega (arith, k.room, depth_bound P s k)))
    in
    record {
      room = omega (arith, k.room, length-set s.frames s.depth frame);
      fit = k.fit;
      depth_most = omega arith;
      all = rw (e, h.0, positive) k.all;
      sum = rw e (omega (arith, k.sum));
      saved_most = fits;
    }

-- a function is left: the saved cells suffice for it, and those beneath it stay
pub left_stack : (P : Program) (c : Config) → StackConsistent P c.state → 0 < c.state.depth → StackConsistent P (left P c).state
unfolding left entered_functions all_present locals_of
left_stack P c k deep =
    let s = c.state in
    let d = function_of P s.function in
    let one : s.depth ≡ suc (s.depth - 1) = omega arith in
    let rest : List ℕ = entered_at (s.depth - 1) (get_or s.frames (s.depth - 1) zero_frame).func_id (set s.frames (s.depth - 1) zero_frame) in
    let e : entered_at s.depth s.function s.frames ≡ s.function ∷ rest =
    ap (λ (m : ℕ). entered_at m s.function s.frames) one ∙ entered_less (s.depth - 1) s.function s.frames
    in
    let alls : all_present P (s.function ∷ rest) ≡ true = (rw e at k.all) in
    record {
      room = omega (arith, k.room, length-set s.frames (s.depth - 1) zero_frame);
      fit = k.fit;
      depth_most = omega (arith, k.depth_most);
      all = and_right (ltb s.function (length P.functions) && not (negative d.locals)) (all_present P rest) alls;
      sum = omega (arith, k.sum, ap (locals_of P) e);
      saved_most = omega (arith, k.saved_most);
    }

-- ---- statements

module _ (P : Program) where
  pub returned_stack : (c : Config) (a : ℕ) → Stacked P c → All (return_conditions P a c) → Stacked P (returned P a c)
  unfolding leave_conditions
  returned_stack c a k h = left_stack P (with_cells c (copied (successive 3 a 1) c.cells)) k (ltb-true 0 c.state.depth h.1.0)

  step_as_stack : (x : Does) (c : Config) → Stacked P c → WhenCompleted (Stacked P) (step_as P x c)
  unfolding step_as
  step_as_stack (next p cells) c k = advanced_stack P c p cells c.entities k
  step_as_stack (puts p entities) c k = advanced_stack P c p c.cells entities k
  step_as_stack (calls f) c k =
      let back = c.state.pc +ℤ pos 1 in
      as_step_law (Stacked P) (enter P f back c) (guarded (Stacked P) (entry_conditions P f c) (entered P f back c) (entered_stack P c f back k))
  step_as_stack (returns a) c k =
      as_step_law (Stacked P) (guard (return_conditions P a c) (returned P a c)) (guarded (Stacked P) (return_conditions P a c) (returned P a c) (returned_stack c a k))
  step_as_stack (refuses n) c k = tt
  step_as_stack (hands_over h) c k = tt

  pub step_stack : (c : Config) → Stacked P c → WhenCompleted (Stacked P) (step P c)
  unfolding step
  step_stack c k = step_as_stack (P.does c.state.pc (entities_of c) c.cells) c k
