-- LAWS of load files: how long they are, and their bytes part by part.
use Rattle.std.specs.Prelude.{◌≡◌, ℕ, zero, suc, ◌+◌, ◌-◌, ◌<◌, List, [], ◌∷◌, ◌++◌, length, replicate, slice_set}
use Rattle.std.proofs.Math.Path.{refl, ap}
use Rattle.std.proofs.Common.{sym, ◌∙◌, append_assoc, append-nil, length-append}
use native.Mathlib.Omega.{arith}
use Rattle.definition.specs.declared.Lump.{Lump}
use Rattle.definition.specs.declared.FileRecord.{FileRecord}
use Rattle.definition.specs.declared.Statement.{Statement}
use Rattle.definition.specs.File.{check_number}
use Rattle.definition.specs.Written.{u16_bytes, u32_bytes, statement_bytes, function_bytes, bytes_of, layout_of, header_numbers, written}
use Rattle.writing_laws.specs.Written.{AllEight, length_written, length_header}
use Rattle.writing_laws.specs.Lumps.{laid_out}
use Rattle.load_files.specs.Draws.{after, drawn}
use Rattle.load_files.specs.LoadFile.{drawn_cell, cells_of, drawn_statement, done, return, statements_from, statements_of, functions_of, contents_for, bytes_for}

pub bytes_append : {A : Type 0} (write : A → List ℕ) (xs ys : List A) → bytes_of write (xs ++ ys) ≡ bytes_of write xs ++ bytes_of write ys
unfolding bytes_of
bytes_append write [] ys = refl
bytes_append write (x ∷ xs) ys = ap (λ (zs : List ℕ). write x ++ zs) (bytes_append write xs ys) ∙ sym (append_assoc (write x) (bytes_of write xs) (bytes_of write ys))

-- ---- what is drawn, one after the other

module _ {A : Type 0} (make : ℕ → A) (each : ℕ) where
  pub length_drawn : (k s : ℕ) → length (drawn make each k s) ≡ k
  unfolding drawn
  length_drawn zero s = refl
  length_drawn (suc k) s = ap suc (length_drawn k (after each s))

  -- the bytes of those that are left after i of n, and of one less
  pub one_drawn : (write : A → List ℕ) (n i s : ℕ) → i < n
      → bytes_of write (drawn make each (n - i) s) ≡ write (make s) ++ bytes_of write (drawn make each (n - (i + 1)) (after each s))
  unfolding drawn bytes_of
  one_drawn write n i s h = let e : n - i ≡ suc (n - (i + 1)) = omega arith in rw e refl

  pub none_drawn : (write : A → List ℕ) (s : ℕ) → bytes_of write (drawn make each 0 s) ≡ []
  unfolding drawn bytes_of
  none_drawn write s = refl

-- ---- the lumps

pub length_statements : (seed n : ℕ) → length (statements_of seed n) ≡ n + 2
length_statements seed n =
    let drawn_ones : List Statement = drawn drawn_statement 4 n (after 36 seed) in
    omega (arith, length-append drawn_ones (return ∷ []), length_drawn drawn_statement 4 n (after 36 seed))

pub length_cells : (seed : ℕ) → length (cells_of seed) ≡ 64
length_cells seed = length-append (replicate 28 0) (drawn drawn_cell 1 36 seed) ∙ rw (length_drawn drawn_cell 1 36 seed) refl

-- the statements' bytes as they are written
pub statements_parts : (n s : ℕ)
    → bytes_of statement_bytes (statements_from n s) ≡ statement_bytes done ++ (bytes_of statement_bytes (drawn drawn_statement 4 n s) ++ statement_bytes return)
unfolding bytes_of
statements_parts n s =
    ap (λ (xs : List ℕ). statement_bytes done ++ xs)
    (bytes_append statement_bytes (drawn drawn_statement 4 n s) (return ∷ [])
    ∙ ap (λ (xs : List ℕ). bytes_of statement_bytes (drawn drawn_statement 4 n s) ++ xs) (append-nil (statement_bytes return)))

-- the functions' bytes: zeros, but for the first of function 1
pub functions_bytes : bytes_of function_bytes functions_of ≡ slice_set (replicate 72 0) 36 1
unfolding bytes_of function_bytes u32_bytes u16_bytes
functions_bytes = refl

zero_cells : bytes_of u32_bytes (replicate 28 0) ≡ replicate 112 0
unfolding bytes_of u32_bytes u16_bytes
zero_cells = refl

pub cells_parts : (seed : ℕ) → bytes_of u32_bytes (cells_of seed) ≡ replicate 112 0 ++ bytes_of u32_bytes (drawn drawn_cell 1 36 seed)
cells_parts seed =
    bytes_append u32_bytes (replicate 28 0) (drawn drawn_cell 1 36 seed)
    ∙ ap (λ (xs : List ℕ). xs ++ bytes_of u32_bytes (drawn drawn_cell 1 36 seed)) zero_cells

-- the lumps that aren't empty, one behind the other: statements, functions, strings, cells
abbrev pub lumps_for : ℕ → ℕ → List ℕ
lumps_for seed n =
    bytes_of statement_bytes (statements_of seed n) ++ (bytes_of function_bytes functions_of ++ (0 ∷ bytes_of u32_bytes (cells_of seed)))

-- so many records in a lump
abbrev pub counted : ℕ → Lump
counted n = record { offset = 0; count = n }

-- how many there are in each lump, the offsets apart
abbrev pub counts_for : ℕ → FileRecord
counts_for n =
    record {
      length = 0;
      statements = counted (n + 2);
      globaldefs = counted 0;
      fielddefs = counted 0;
      functions = counted 2;
      strings = counted 1;
      globals = counted 64;
      entityfields = 105;
    }

abbrev pub layout_for : ℕ → FileRecord
layout_for n = laid_out (counts_for n)

-- ---- the file

module _ (seed n : ℕ) where
  pub eight_for : AllEight (contents_for seed n)
  unfolding contents_for
  eight_for = (refl, (refl, tt))

  pub layout_for_law : layout_of (contents_for seed n) ≡ layout_for n
  unfolding contents_for
  layout_for_law = rw (length_statements seed n, length_cells seed) refl

  abbrev header : List ℕ
  header = bytes_of u32_bytes (header_numbers check_number (layout_for n))

  pub file_parts : bytes_for seed n ≡ header ++ lumps_for seed n
  unfolding written contents_for bytes_of
  file_parts = rw layout_for_law (simp (append-nil, append_assoc))

  -- 405 bytes, and eight more for each drawn statement
  pub length_file : length (bytes_for seed n) ≡ (layout_for n).length
  length_file = length_written check_number (contents_for seed n) eight_for ∙ ap (λ (r : FileRecord). r.length) layout_for_law

  pub length_lumps : 60 + length (lumps_for seed n) ≡ (layout_for n).length
  length_lumps = omega (arith, length-append header (lumps_for seed n), ap length file_parts, length_header check_number (layout_for n), length_file)
