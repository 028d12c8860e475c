-- The two engines (document 02, R-12): when statements are unpacked, what is left of the buffer, and that a run from what was unpacked is the first engine's.
use Prim.Native.Nat.{ℕ, ◌+◌, ◌*◌, ◌-◌, ◌≤◌}
use Rattle.std.specs.Prelude.{◌≡◌, refl, true, ℤ, leb}
use Rattle.std.proofs.Common.{sym, ◌∙◌, arith, le-leb, drop_at}
use Rattle.std.proofs.Math.Path.{ap}
use mathlib.Core.List.{List, [], ◌∷◌, ◌++◌}
use Rattle.std.proofs.Math.ListN.{length, drop, length-append, length-drop}
use Rattle.definition.specs.declared.Settings.{Settings}
use Rattle.definition.specs.declared.Statement.{Statement}
use Rattle.definition.specs.Checks.{accepted}
use Rattle.definition.specs.File.{file_of, contents_at, contents_of, unpacked_size, numbers_of}
use Rattle.definition.specs.Machine.{Program, with_unpacked, Config, Ran}
use Rattle.definition.specs.Load.{load, program_with, program_of}
use Rattle.definition.specs.Operations.{sound, run}
use Rattle.definition.specs.Calls.{runs, runs_unpacked, after, small_steps, steps_of_run}
use Rattle.definition.specs.Unpacked.{unpack_conditions, buffer_after, unpack, Unpacked}
use Rattle.definition.proofs.UnpackedLaws.{same_program, same_run}
use Rattle.definition.proofs.RecordLaws.{length_records}
use Rattle.definition.proofs.CheckLaws.{guard_accepts}
use Rattle.laws.specs.Exactly.{Exactly, exactly}
use Rattle.laws.specs.Sound.{never_13_lent}

four_each : (sts : List Statement) → length (numbers_of sts) ≡ 4 * length sts
unfolding numbers_of
four_each [] = refl
four_each (st ∷ sts) = omega (arith, four_each sts)

module _ (file : List ℕ) where
  abbrev P : Program
  P = program_of file

  -- how many numbers the statements have
  abbrev numbers : ℕ
  numbers = unpacked_size * (file_of file).statements.count

  -- accepted exactly where 13 and 37 don't refuse
  pub unpack_exactly : (before : List ℕ) (c : Config) → Exactly (unpack_conditions P before c) (buffer_after file before) (unpack file before c)
  unfolding unpack
  unpack_exactly before c = exactly (unpack_conditions P before c) (buffer_after file before)

  pub unpacks : (before : List ℕ) (c : Config) → sound P c ≡ true → numbers ≤ length before → unpack file before c ≡ accepted (buffer_after file before)
  unfolding unpack program_with
  unpacks before c s h = guard_accepts (unpack_conditions P before c) (buffer_after file before) (s, (le-leb numbers (length before) h, tt))

  -- "numbers past the last statement keep what they had", and the buffer keeps its length
  pub rest_kept : (before : List ℕ) → numbers ≤ length before
      → (drop numbers (buffer_after file before) ≡ drop numbers before) × (length (buffer_after file before) ≡ length before)
  unfolding buffer_after contents_at
  rest_kept before h =
      let sts : List Statement = (contents_of file).statements in
      let rest : List ℕ = drop numbers before in
      let size : length (numbers_of sts) ≡ numbers = four_each sts ∙ ap (λ (n : ℕ). 4 * n) (length_records _ _ _ _) in
      (drop_at (numbers_of sts) rest numbers size, omega (arith, size, length-append (numbers_of sts) rest, length-drop numbers before, h))

  -- "For every file that loads": what was unpacked after the load, with room for it, is unpacked
  pub loaded_unpacks : (s : Settings) (n : ℤ) (cells saved entities : List ℕ) (c : Config) → load s file n cells saved entities ≡ accepted c
      → (before : List ℕ) → numbers ≤ length before → Unpacked file (buffer_after file before)
  loaded_unpacks s n cells saved entities c accepts before h =
      record { before = before; state = c; gives = unpacks before c (never_13_lent s file n cells saved entities c accepts [] tt tt) h }

  -- "it is proved to give the same outcome, count, state, cells, saved store and entity cells as the first": from every state
  pub engines_agree : (s : Settings) (n : ℤ) (cells saved entities : List ℕ) (c : Config) → load s file n cells saved entities ≡ accepted c
      → (before : List ℕ) → numbers ≤ length before
      → (target limit : ℤ) (c' : Config) → run (with_unpacked P (buffer_after file before)) target limit c' ≡ run P target limit c'
  engines_agree s n cells saved entities c accepts before h = same_run file (buffer_after file before) (loaded_unpacks s n cells saved entities c accepts before h)

  -- as calls of demand 3's lists: what they leave, and the small steps on the way
  pub calls_agree : (buffer : List ℕ) → Unpacked file buffer → (target limit : ℤ) (c : Config)
      → (after P (runs_unpacked buffer target limit) c ≡ after P (runs target limit) c)
      × (small_steps P (runs_unpacked buffer target limit) c ≡ small_steps P (runs target limit) c)
  unfolding after small_steps
  calls_agree buffer u target limit c = (
    ap (λ (r : Ran). r.config) (same_run file buffer u target limit c),
    ap (λ (Q : Program). steps_of_run Q target limit c) (same_program file buffer u),
  )
