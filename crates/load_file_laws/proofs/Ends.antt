-- "and function 1, entered directly after and run to depth 0 with a permitted limit above n, always ends after n+1 statements": by induction over the
-- statements that are left.
use Prim.Native.Nat.{ℕ, zero, suc, ◌+◌, ◌-◌, ◌≤◌, ◌<◌}
use Rattle.std.specs.Prelude.{◌≡◌, List, true, ℤ, ◌+ℤ◌}
use Rattle.std.proofs.Math.Path.{refl, ap}
use Rattle.std.proofs.Common.{◌∙◌, subst}
use native.Mathlib.Omega.{arith}
use borrow.Author.Tests.{le-leb, lt-ltb}
use Rattle.std.proofs.Math.IntN.{pos}
use Rattle.definition.specs.declared.Settings.{Settings}
use Rattle.definition.specs.declared.RunAnswer.TheVariants.{Ended}
use Rattle.definition.specs.Checks.{accepted}
use Rattle.definition.specs.File.{check_number, Contents, file_of}
use Rattle.definition.specs.Statements.{Entities, next, returns, does_at}
use Rattle.definition.specs.Machine.{Program, Config, entities_of, present, copies_present, arguments, entry_conditions, entered, leave_conditions, left, returned, advanced, completed, step, Ran, run_for}
use Rattle.definition.specs.Load.{program_with, program_of, loaded, load}
use Rattle.definition.specs.Operations.{sound, host_enter, run_conditions, run}
use Rattle.definition.specs.Written.{layout}
use Rattle.definition.specs.LoadLaws.{InRange}
use Rattle.definition.specs.CheckLaws.{All, WhenAccepted}
use Rattle.laws.specs.Entities.{Suffice}
use Rattle.laws.specs.Exactly.{entry_exactly, run_exactly, step_exactly}
use Rattle.laws.specs.Runs.{run_ends, run_goes_on}
use Rattle.laws.specs.Sound.{Consistent, consistent_sound, entered_consistent, loaded_consistent, load_suffices}
use Rattle.load_files.specs.Draws.{after}
use Rattle.load_files.specs.LoadFile.{functions_of, contents_for, bytes_for}
use Rattle.load_files.specs.Laws.{length_statements, length_cells}
use Rattle.load_file_laws.specs.Loads.{Lent}
use Rattle.load_file_laws.proofs.Loads.{says, recorded, always_loads}
use Rattle.load_file_laws.specs.Steps.{GoesOn, arithmetic_goes_on, return_returns, drawn_at, return_at}
use Rattle.load_file_laws.specs.Ends.{EndedAfter}

module _ (seed n : ℕ) where
  abbrev file : List ℕ
  file = bytes_for seed n

  abbrev P : Program
  P = program_of file

  functions_are : P.functions ≡ functions_of
  unfolding program_with contents_for
  functions_are = ap (λ (k : Contents). k.functions) (says seed n)

  does_are : (p : ℤ) (e : Entities) (cells : List ℕ) → P.does p e cells ≡ does_at (contents_for seed n) p e cells
  unfolding program_with
  does_are p e cells = ap (λ (k : Contents). does_at k p e cells) (says seed n)

  -- function 1 is running, at statement i
  record Running (i : ℕ) (c : Config) : Type 0 where
    at : c.state.pc ≡ pos i
    depth : c.state.depth ≡ 1
    function : c.state.function ≡ 1
    file_is : c.state.file ≡ file_of file

  -- a drawn statement completes
  module _ (i : ℕ) (h : i < n) (c : Config) (r : Running (suc i) c) where
    goes_on : GoesOn (contents_for seed n) (suc i) (entities_of c) c.cells
    unfolding contents_for
    goes_on = arithmetic_goes_on (contents_for seed n) refl (length_cells seed) (suc i) (omega (arith, length_statements seed n)) (entities_of c) c.cells (drawn_at n (after 36 seed) i h)

    abbrev next_one : Config
    next_one = advanced c (pos (suc i) +ℤ pos 1) goes_on.written c.entities

    completes : step P c ≡ completed next_one
    completes = step_exactly P c (next (pos (suc i) +ℤ pos 1) goes_on.written) (does_are _ _ _ ∙ ap (λ (p : ℤ). does_at (contents_for seed n) p (entities_of c) c.cells) r.at ∙ goes_on.does)

    still_running : Running (suc (suc i)) next_one
    still_running = record { at = ap pos (omega arith); depth = r.depth; function = r.function; file_is = r.file_is }

  -- the Return ends the run
  module _ (c : Config) (r : Running (suc n) c) where
    can_return : All (leave_conditions P c)
    unfolding leave_conditions present
    can_return = rw (r.depth, r.function, functions_are) (refl, (le-leb 0 c.state.saved (omega arith), (refl, tt)))

    last_returns : step P c ≡ completed (returned P 28 c)
    unfolding contents_for present layout
    last_returns =
        let is = return_returns (contents_for seed n) refl (length_cells seed) (suc n) (omega (arith, length_statements seed n)) (entities_of c) c.cells (return_at n (after 36 seed)) in
        (step_exactly P c (returns 28) (does_are _ _ _ ∙ rw r.at is)).0 (rw (r.file_is, recorded seed n) refl, can_return)

    depth_0 : (returned P 28 c).state.depth ≡ 0
    unfolding left
    depth_0 = rw r.depth refl

  -- with m statements left of the drawn ones, and a limit of more than that
  ends_after : (m i extra : ℕ) → i + m ≡ n → (c : Config) → Running (suc i) c → EndedAfter (m + 1) (run_for P (suc (m + extra)) 0 c)
  ends_after zero i extra e c r =
      let here : Running (suc n) c = subst (λ (j : ℕ). Running (suc j) c) (omega arith) r in
      rw (run_ends P (0 + extra) 0 c (returned P 28 c) (last_returns c here) (depth_0 c here)) (record { answer = refl; statements = refl })
  ends_after (suc m) i extra e c r =
      let h : i < n = omega arith in
      let rest = ends_after m (suc i) extra (omega arith) (next_one i h c r) (still_running i h c r) in
      let more : suc m + extra ≡ suc (m + extra) = omega arith in
      rw (more, run_goes_on P (suc (m + extra)) 0 c (next_one i h c r) (completes i h c r) (rw r.depth refl))
      (record { answer = rest.answer; statements = omega (arith, rest.statements) })

  -- R-11: "under check number 5927 and a run limit above n", whatever the other settings are
  module _ (s : Settings) (range : InRange s) (five : s.check_number ≡ check_number) (few : n ≤ 1000) (number : ℕ) (cells saved entities : List ℕ) (lent : Lent number cells saved entities) where
    abbrev start : Config
    start = loaded s file number cells saved entities

    abbrev inside : Config
    inside = entered P 1 (pos 0) start

    loads : load s file (pos number) cells saved entities ≡ accepted start
    loads = always_loads seed n s range five few number cells saved entities lent

    consistent : Consistent file start
    consistent = subst (WhenAccepted (Consistent file)) loads (loaded_consistent s file (pos number) cells saved entities)

    suffice : Suffice file start
    suffice = load_suffices s file (pos number) cells saved entities start loads

    can_enter : All (entry_conditions P 1 start)
    unfolding entry_conditions loaded present copies_present arguments
    can_enter = rw (functions_are, lt-ltb 0 s.depth range.depth_least, le-leb 0 s.saved (omega arith)) (refl, (refl, (refl, (refl, (refl, (refl, (refl, tt)))))))

    -- "entered directly after"
    pub enters : host_enter P (pos 1) start ≡ accepted inside
    unfolding loaded
    enters = (entry_exactly P (pos 1) start).accepts (consistent_sound file start consistent suffice, can_enter)

    sound_inside : sound P inside ≡ true
    unfolding entered
    sound_inside = consistent_sound file inside (entered_consistent file start 1 (pos 0) consistent can_enter) suffice

    running : Running 1 inside
    unfolding entered loaded
    running = record { at = ap pos (rw functions_are refl); depth = refl; function = refl; file_is = refl }

    -- "run to depth 0 with a permitted limit above n"
    pub always_ends : (limit : ℕ) → n < limit → limit ≤ s.limit → EndedAfter (n + 1) (run P (pos 0) (pos limit) inside)
    unfolding run_conditions entered loaded program_with
    always_ends limit above permitted =
        let begins = (run_exactly P (pos 0) (pos limit) inside).0 (sound_inside, (refl, (rw (le-leb 1 limit (omega arith), le-leb limit s.limit permitted) refl, (refl, tt)))) in
        let enough : limit ≡ suc (n + (limit - suc n)) = omega arith in
        rw (begins, enough) (ends_after n 0 (limit - suc n) (omega arith) inside running)
