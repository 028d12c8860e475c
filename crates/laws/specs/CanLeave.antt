-- After an accepted load, leaving is never refused above depth 0: so an abandonment to any depth from 0 up to the present one is accepted, as long as the
-- host lends entity cells enough.
use Prim.Native.Nat.{ℕ, zero, suc, ◌+◌, ◌-◌, ◌≤◌, ◌<◌}
use Rattle.std.specs.Prelude.{◌≡◌, refl, List, [], ◌∷◌, ◌++◌, Bool, true, false, not, ◌&&◌, ℤ, pos, length, get_or, set, leb, ltb}
use Rattle.std.proofs.Common.{sym, ◌∙◌, subst, length-set}
use Rattle.std.proofs.Math.Path.{ap}
use native.Mathlib.Omega.{arith}
use borrow.Author.Tests.{ltb-true, leb-true, le-leb, lt-ltb}
use Rattle.definition.specs.declared.Settings.{Settings}
use Rattle.definition.specs.declared.StackFrame.{StackFrame}
use Rattle.definition.specs.Checks.{Condition, Conditions, Checked, refused, accepted, guard}
use Rattle.definition.specs.File.{greatest_depth, file_of}
use Rattle.definition.specs.Machine.{Program, function_of, State, Config, count_of, zero_frame, present, copied, successive, arguments_of, with_cells, advanced}
use Rattle.definition.specs.Machine.{entry_conditions, entered, leave_conditions, left, return_conditions, returned}
use Rattle.definition.specs.Load.{load, loaded, program_of}
use Rattle.definition.specs.Operations.{entered_at, entered_functions, sound, natural, left_times, leavings_conditions, leavings_to, abandon_conditions, abandon}
use Rattle.definition.specs.Calls.{Call}
use Rattle.definition.specs.Unpacked.{AllReady}
use Rattle.definition.specs.Log.{Log, Kind, entry, leaving, other}
use Rattle.definition.specs.Trace.{StepProperty, Always}
use Rattle.definition.specs.CheckLaws.{All, WhenAccepted}
use Rattle.definition.proofs.CheckLaws.{all_both, guarded, guard_accepts}
use Rattle.definition.proofs.Parts.{length_copied}
use Rattle.definition.specs.StatementLaws.{Keeps}
use Rattle.definition.specs.Invariant.{Preserves, Inductive, room_in}
use Rattle.definition.proofs.Invariant.{always}
use Rattle.laws.specs.Entities.{Suffice, LendEnough, while_enough}
use Rattle.laws.specs.Sound.{StackConsistent, depth_bound, Consistent, consistent_sound, entered_more, entered_less, suffice, advanced_consistent, entered_consistent, left_consistent, returned_consistent, loaded_consistent, load_suffices, AnyStep}

-- the local cells of these functions are below the count
abbrev Ranges : Program → ℕ → List ℕ → Type 0
Ranges P count [] = Unit {0}
Ranges P count (f ∷ fs) = (present (function_of P f).start (function_of P f).locals count ≡ true) × Ranges P count fs

-- the inductive invariant: the local ranges of the entered functions are there to be restored
record RangesPresent (file : List ℕ) (c : Config) : Type 0 where
  consistent : Consistent file c
  ranges : Ranges (program_of file) (count_of c) (entered_functions c.state)

module _ (file : List ℕ) where
  abbrev P : Program
  P = program_of file

  advanced_ranges : (c : Config) (p : ℤ) (cells entities : List ℕ) → length cells ≡ length c.cells → RangesPresent file c → RangesPresent file (advanced c p cells entities)
  unfolding entered_functions
  advanced_ranges c p cells entities e k = record { consistent = advanced_consistent file c p cells entities e k.consistent; ranges = k.ranges }

  entered_ranges : (c : Config) (f : ℕ) (back : ℤ) → RangesPresent file c → All (entry_conditions P f c) → RangesPresent file (entered P f back c)
  unfolding entry_conditions entered entered_functions
  entered_ranges c f back k h =
      let s = c.state in
      let shallow : s.depth < s.settings.depth = ltb-true s.depth s.settings.depth h.1.0 in
      let frame : StackFrame = record { instr_id = back; func_id = s.function } in
      let e : entered_at (s.depth + 1) f (set s.frames s.depth frame) ≡ f ∷ entered_at s.depth s.function s.frames =
      rw native.Mathlib.Numerals.add-one (entered_more s.depth f s.frames frame (omega (arith, k.consistent.stack.room, depth_bound P s k.consistent.stack)))
      in
      record { consistent = entered_consistent file c f back k.consistent h; ranges = rw e (h.1.1.1.0, k.ranges) }

  -- what is entered: the current function, and the rest
  abbrev rest : State → List ℕ
  rest s = entered_at (s.depth - 1) (get_or s.frames (s.depth - 1) zero_frame).func_id (set s.frames (s.depth - 1) zero_frame)

  innermost : (s : State) → 0 < s.depth → entered_functions s ≡ s.function ∷ rest s
  unfolding entered_functions
  innermost s h =
      let one : s.depth ≡ suc (s.depth - 1) = omega arith in
      ap (λ (m : ℕ). entered_at m s.function s.frames) one ∙ entered_less (s.depth - 1) s.function s.frames

  can_leave : (c : Config) → RangesPresent file c → 0 < c.state.depth → All (leave_conditions P c)
  unfolding leave_conditions
  can_leave c k h =
      let ranges : Ranges P (count_of c) (c.state.function ∷ rest c.state) = (rw (innermost c.state h) at k.ranges) in
      (lt-ltb 0 c.state.depth h, (le-leb _ _ (suffice P c.state h k.consistent.stack), (ranges.0, tt)))

  left_ranges : (c : Config) → RangesPresent file c → All (leave_conditions P c) → RangesPresent file (left P c)
  unfolding leave_conditions left entered_functions
  left_ranges c k h =
      let deep : 0 < c.state.depth = ltb-true 0 c.state.depth h.0 in
      let ranges : Ranges P (count_of c) (c.state.function ∷ rest c.state) = (rw (innermost c.state deep) at k.ranges) in
      record { consistent = left_consistent file c k.consistent h; ranges = ranges.1 }

  returned_ranges : (c : Config) (a : ℕ) → RangesPresent file c → All (return_conditions P a c) → RangesPresent file (returned P a c)
  unfolding leave_conditions
  returned_ranges c a k h =
      left_ranges (with_cells c (copied (successive 3 a 1) c.cells))
      (advanced_ranges c c.state.pc (copied (successive 3 a 1) c.cells) c.entities (length_copied (successive 3 a 1) c.cells) k) h.1

  ranges_inductive : Inductive file (λ c l. RangesPresent file c) AnyStep
  ranges_inductive =
      record {
        plain = λ c l p cells entities k keeps puts. (tt, advanced_ranges c p cells entities keeps.same_length k);
        writing = λ c l cells k keeps. (tt, advanced_ranges c c.state.pc cells c.entities keeps.same_length k);
        lending = λ c l entities k. (tt, advanced_ranges c c.state.pc c.cells entities refl k);
        entering = λ c l f back k h. (tt, entered_ranges c f back k h);
        returning = λ c l a k h. (tt, returned_ranges c a k h);
        leave_one = λ c l k h. (tt, left_ranges c k h);
      }

  leavings_accepted : (n : ℕ) (c : Config) → RangesPresent file c → n ≤ c.state.depth → All (leavings_conditions P n c)
  unfolding leavings_conditions left
  leavings_accepted zero c k h = tt
  leavings_accepted (suc n) c k h =
      let here : All (leave_conditions P c) = can_leave c k (omega arith) in
      all_both (leave_conditions P c) (leavings_conditions P n (left P c)) here
      (leavings_accepted n (left P c) (left_ranges c k here) (omega arith))

  abandons : (c : Config) → RangesPresent file c → Suffice file c → (target : ℕ) → target ≤ c.state.depth → (c' : Config) × (abandon P (pos target) c ≡ accepted c')
  unfolding abandon abandon_conditions
  abandons c k lent t h = (
    left_times P (c.state.depth - t) c,
    guard_accepts (abandon_conditions P (pos t) c) _
        (consistent_sound file c k.consistent lent, (lt-ltb t (c.state.depth + 1) (omega arith), leavings_accepted (c.state.depth - t) c k (omega arith))),
  )

  loaded_ranges : (s : Settings) (n : ℤ) (cells saved entities : List ℕ) → WhenAccepted (RangesPresent file) (load s file n cells saved entities)
  unfolding load loaded entered_functions
  loaded_ranges s n cells saved entities = with_none (load s file n cells saved entities) (loaded_consistent s file n cells saved entities) (guarded (λ (c : Config). c.state.depth ≡ 0) _ _ λ h. refl)
    where
      with_none : (x : Checked Config) → WhenAccepted (Consistent file) x → WhenAccepted (λ (c : Config). c.state.depth ≡ 0) x → WhenAccepted (RangesPresent file) x
      with_none (refused n) s z = tt
      with_none (accepted c) s z = record { consistent = s; ranges = rw z tt }

-- what holds of every state that a list of calls reaches: above depth 0 leaving is accepted, and so is an abandonment to any depth up to the present one,
-- where the lent entity cells suffice
pub record CanLeave (file : List ℕ) (c : Config) (l : Log) : Type 0 where
  pub leaves : 0 < c.state.depth → All (leave_conditions (program_of file) c)
  pub abandons_to : Suffice file c → (target : ℕ) → target ≤ c.state.depth → (c' : Config) × (abandon (program_of file) (pos target) c ≡ accepted c')

pub always_can_leave : (s : Settings) (file : List ℕ) (n : ℤ) (cells saved entities : List ℕ) (c : Config) → load s file n cells saved entities ≡ accepted c → (calls : List Call) → AllReady file calls → Always file AnyStep (CanLeave file) c [] calls
always_can_leave s file n cells saved entities c accepts calls ready =
    always file (λ c' l. RangesPresent file c') AnyStep (ranges_inductive file) (CanLeave file)
    (λ c' l k. record { leaves = can_leave file c' k; abandons_to = λ lent t h. abandons file c' k lent t h })
    c [] calls ready
    (subst (WhenAccepted (RangesPresent file)) accepts (loaded_ranges file s n cells saved entities))

-- so in a list in which every lending is of entity cells enough, or in one without lendings, an abandonment is accepted at any time
pub always_abandons : (s : Settings) (file : List ℕ) (n : ℤ) (cells saved entities : List ℕ) (c : Config) → load s file n cells saved entities ≡ accepted c
    → (calls : List Call) → AllReady file calls → LendEnough (room_in file c) calls
    → Always file AnyStep (λ c' l. (target : ℕ) → target ≤ c'.state.depth → (c'' : Config) × (abandon (program_of file) (pos target) c' ≡ accepted c'')) c [] calls
always_abandons s file n cells saved entities c accepts calls ready lent =
    while_enough file AnyStep (CanLeave file) _ (λ c' l k enough. k.abandons_to enough)
    c [] calls ready (load_suffices s file n cells saved entities c accepts) lent (always_can_leave s file n cells saved entities c accepts calls ready)
