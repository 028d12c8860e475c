-- R-12: the program whose statements come from a buffer that was unpacked from these bytes is the program of the bytes.
use Prim.Native.Nat.{ℕ, zero, suc, ◌+◌, ◌*◌, ◌≤◌}
use Rattle.std.specs.Prelude.{◌≡◌, true, ℤ, length, get_or, leb}
use Rattle.std.proofs.Math.Path.{refl, subst}
use Rattle.std.proofs.Common.{sym, ◌∙◌, ap, add_assoc, add-zero, zero-add, arith, get_or-drop}
use mathlib.Core.List.{List, [], ◌∷◌, ◌++◌}
use borrow.Author.Tests.{le-leb, leb-true}
use Rattle.std.proofs.Math.ListN.{drop, length-append}
use Rattle.definition.specs.declared.Statement.{Statement}
use Rattle.definition.specs.File.{records, read_unpacked, unpacked_size, unpacked_statements, numbers_of, file_of, contents_at, contents_of}
use Rattle.definition.specs.Machine.{Program, with_unpacked, Config}
use Rattle.definition.specs.Load.{program_with, program_of}
use Rattle.definition.specs.Operations.{entered_functions, all_present, locals_of, sound, run}
use Rattle.definition.specs.Unpacked.{unpack_conditions, buffer_after, unpack, Unpacked}
use Rattle.definition.specs.CheckLaws.{WhenAccepted}
use Rattle.definition.proofs.CheckLaws.{guarded}
use Rattle.definition.proofs.RecordLaws.{length_records}

-- ---- what was unpacked is read back

-- where the numbers from i on in one buffer are those from j on in the other
same_statements : (xs ys : List ℕ) (n i j : ℕ) → ((k : ℕ) → get_or xs (i + k) 0 ≡ get_or ys (j + k) 0)
    → records (read_unpacked xs) unpacked_size n i ≡ records (read_unpacked ys) unpacked_size n j
unfolding records
same_statements xs ys zero i j h = refl
same_statements xs ys (suc n) i j h =
    let o : get_or xs i 0 ≡ get_or ys j 0 = rw (add-zero i, add-zero j) at (h 0) in
    let a = h 1 in
    let b = h 2 in
    let c = h 3 in
    let rest = same_statements xs ys n (i + 4) (j + 4) (λ k. rw (add_assoc i 4 k, add_assoc j 4 k) (h (4 + k))) in
    cc

pub numbers_read : (sts : List Statement) (rest : List ℕ) → unpacked_statements (numbers_of sts ++ rest) (length sts) ≡ sts
unfolding numbers_of records
numbers_read [] rest = refl
numbers_read (st ∷ sts) rest =
    let more : List ℕ = numbers_of sts ++ rest in
    let all : List ℕ = st.opcode ∷ st.arg1 ∷ st.arg2 ∷ st.arg3 ∷ more in
    ap (λ (tail : List Statement). st ∷ tail)
    (same_statements all more (length sts) (0 + 4) 0 (λ k. rw (zero-add 4, zero-add k) (sym (get_or-drop 4 all k 0))) ∙ numbers_read sts rest)

length_numbers : (sts : List Statement) → length (numbers_of sts) ≡ 4 * length sts
unfolding numbers_of
length_numbers [] = refl
length_numbers (st ∷ sts) = omega (arith, length_numbers sts)

-- ---- the buffer after an accepted unpacking

module _ (file : List ℕ) where
  abbrev count : ℕ
  count = (file_of file).statements.count

  -- it has room, and the file's statements are in it
  record Holds (buffer : List ℕ) : Type 0 where
    room : leb (unpacked_size * count) (length buffer) ≡ true
    same : unpacked_statements buffer count ≡ (contents_of file).statements

  counted : length (contents_of file).statements ≡ count
  unfolding contents_at
  counted = length_records _ _ _ _

  after_holds : (before : List ℕ) → unpacked_size * count ≤ length before → Holds (buffer_after file before)
  unfolding buffer_after
  after_holds before fits =
      let sts : List Statement = (contents_of file).statements in
      let rest : List ℕ = drop (unpacked_size * count) before in
      record {
        room = le-leb (unpacked_size * count) (length (numbers_of sts ++ rest)) (omega (arith, length-append (numbers_of sts) rest, length_numbers sts, counted));
        same = subst (λ (n : ℕ). unpacked_statements (numbers_of sts ++ rest) n ≡ sts) counted (numbers_read sts rest);
      }

  unpack_holds : (before : List ℕ) (c : Config) → WhenAccepted Holds (unpack file before c)
  unfolding unpack program_with
  unpack_holds before c =
      guarded Holds (unpack_conditions (program_of file) before c) (buffer_after file before)
      (λ h. after_holds before (leb-true (unpacked_size * count) (length before) h.1.0))

  holds : (buffer : List ℕ) → Unpacked file buffer → Holds buffer
  holds buffer u = subst (WhenAccepted Holds) u.gives (unpack_holds u.before u.state)

  pub same_program : (buffer : List ℕ) → Unpacked file buffer → with_unpacked (program_of file) buffer ≡ program_of file
  unfolding program_with
  same_program buffer u = let h = holds buffer u in rw (h.room, h.same)

  -- "it is proved to give the same outcome, count, state, cells, saved store and entity cells as the first", from every state
  pub same_run : (buffer : List ℕ) → Unpacked file buffer → (target limit : ℤ) (c : Config) → run (with_unpacked (program_of file) buffer) target limit c ≡ run (program_of file) target limit c
  same_run buffer u target limit c = ap (λ (P : Program). run P target limit c) (same_program buffer u)

-- ---- check 13 is the first engine's, whatever the buffer holds

module _ (P : Program) (buffer : List ℕ) where
  all_present_kept : (fs : List ℕ) → all_present (with_unpacked P buffer) fs ≡ all_present P fs
  unfolding all_present
  all_present_kept [] = refl
  all_present_kept (f ∷ fs) = rw (all_present_kept fs)

  locals_kept : (fs : List ℕ) → locals_of (with_unpacked P buffer) fs ≡ locals_of P fs
  unfolding locals_of
  locals_kept [] = refl
  locals_kept (f ∷ fs) = rw (locals_kept fs)

  pub sound_kept : (c : Config) → sound (with_unpacked P buffer) c ≡ sound P c
  unfolding sound
  sound_kept c = rw (all_present_kept (entered_functions c.state), locals_kept (entered_functions c.state))
