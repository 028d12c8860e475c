-- WRITING WHAT WAS READ: the written records of a lump are its bytes as they stand, but for a function's profile number, which is written as 0. One law for
-- the records of any lump, over their writer and their reader.
use Prim.Native.Nat.{ℕ, zero, suc, ◌+◌, ◌*◌, ◌/◌, ◌%◌, ◌≤◌, ◌<◌}
use Rattle.std.specs.Prelude.{◌≡◌, true, length, get_or, take, drop}
use Rattle.std.proofs.Math.Path.{refl, sym, ap}
use Rattle.std.proofs.Common.{◌∙◌, add-zero, zero-add, mul-zero, add-one, drop-cons}
use mathlib.Core.List.{List, [], ◌∷◌, ◌++◌, append_assoc}
use Rattle.std.proofs.Math.Nat.{mul-suc, mod-eq_of_lt, add-mul-mod_self_left, add-mul-div_left, div-eq_of_lt}
use native.Mathlib.Omega.{arith}
use Rattle.std.proofs.Math.Seq.{take-length}
use Rattle.definition.specs.declared.Lump.{Lump}
use Rattle.definition.specs.declared.FileRecord.{FileRecord}
use Rattle.definition.specs.File.{byte_at, u16_at, u32_at, lump_fits, records, records_in, read_statement, read_definition, read_function, contents_at}
use Rattle.definition.specs.Written.{u16_bytes, u32_bytes, statement_bytes, definition_bytes, function_bytes, bytes_of}
use Rattle.functions.specs.Laws.{AllFit}
use Rattle.functions.specs.Parts.{part_of, records_of}
use Rattle.functions.specs.PartLaws.{Local, byte_local, u32_local, statement_local, definition_local, length_part, count_part, part_records}

-- what is lent as bytes
pub record Bytes (f : List ℕ) : Type 0 where
  pub below : (i : ℕ) → byte_at f i < 256

-- ---- n bytes from a place on

abbrev span : List ℕ → ℕ → ℕ → List ℕ
span f at n = records (byte_at f) 1 n at

span_append : (f : List ℕ) (m n at : ℕ) → span f at m ++ span f (at + m) n ≡ span f at (m + n)
unfolding records
span_append f zero n at = rw (add-zero at, zero-add n) refl
span_append f (suc m) n at =
    let e : at + suc m ≡ at + 1 + m = omega arith in
    let c : suc m + n ≡ suc (m + n) = omega arith in
    rw (e, c) (ap (λ (xs : List ℕ). byte_at f at ∷ xs) (span_append f m n (at + 1)))

pub span_take : (f : List ℕ) (n at : ℕ) → at + n ≤ length f → span f at n ≡ take n (drop at f)
unfolding records byte_at
span_take f zero at h = refl
span_take f (suc n) at h =
    let rest : span f (at + 1) n ≡ take n (drop (suc at) f) = rw (← add-one at) (span_take f n (at + 1) (omega arith)) in
    rw (drop-cons f at 0 (omega arith)) (ap (λ (xs : List ℕ). get_or f at 0 ∷ xs) rest)

regroup : (a b c d e g : List ℕ) → a ++ b ++ c ++ d ++ e ++ g ≡ a ++ b ++ (c ++ d ++ e ++ g)
regroup a b c d e g = simp append_assoc

-- ---- numbers

module _ (f : List ℕ) (b : Bytes f) where
  low : (x y : ℕ) → x < 256 → (x + 256 * y) % 256 ≡ x
  low x y h = add-mul-mod_self_left x 256 y ∙ mod-eq_of_lt h

  high : (size x y : ℕ) → x < size → (x + size * y) / size ≡ y
  high size x y h = add-mul-div_left x y (omega arith) ∙ rw (div-eq_of_lt h) (zero-add y)

  u16_again : (at : ℕ) → u16_bytes (u16_at f at) ≡ span f at 2
  unfolding u16_bytes u16_at records
  u16_again at = rw (low (byte_at f at) (byte_at f (at + 1)) (b.below at), high 256 (byte_at f at) (byte_at f (at + 1)) (b.below at)) refl

  u16_below : (at : ℕ) → u16_at f at < 65536
  unfolding u16_at
  u16_below at = omega (arith, b.below at, b.below (at + 1))

  u32_again : (at : ℕ) → u32_bytes (u32_at f at) ≡ span f at 4
  unfolding u32_bytes u32_at
  u32_again at =
      let l : (u16_at f at + 65536 * u16_at f (at + 2)) % 65536 ≡ u16_at f at = add-mul-mod_self_left (u16_at f at) 65536 (u16_at f (at + 2)) ∙ mod-eq_of_lt (u16_below at) in
      let h : (u16_at f at + 65536 * u16_at f (at + 2)) / 65536 ≡ u16_at f (at + 2) = high 65536 (u16_at f at) (u16_at f (at + 2)) (u16_below at) in
      rw (l, h, u16_again at, u16_again (at + 2)) (span_append f 2 2 at)

  -- ---- records

  statement_again : (at : ℕ) → statement_bytes (read_statement f at) ≡ span f at 8
  unfolding statement_bytes
  statement_again at =
      rw (u16_again at, u16_again (at + 2), u16_again (at + 4), u16_again (at + 6), span_append f 2 2 at, span_append f 4 2 at) (span_append f 6 2 at)

  definition_again : (at : ℕ) → definition_bytes (read_definition f at) ≡ span f at 8
  unfolding definition_bytes
  definition_again at = rw (u16_again at, u16_again (at + 2), u32_again (at + 4), span_append f 2 2 at) (span_append f 4 4 at)

  -- a function but for its profile number
  function_again : (at : ℕ) → function_bytes (read_function f at) ≡ span f at 12 ++ u32_bytes 0 ++ span f (at + 16) 20
  unfolding function_bytes
  function_again at =
      let e1 : at + 20 ≡ at + 16 + 4 = omega arith in
      let e2 : at + 24 ≡ at + 16 + 8 = omega arith in
      let e3 : at + 28 ≡ at + 16 + 12 = omega arith in
      rw (u32_again at, u32_again (at + 4), u32_again (at + 8), u32_again (at + 16), u32_again (at + 20), u32_again (at + 24), span_append f 4 4 at, span_append f 8 4 at)
      (regroup (span f at 12) (u32_bytes 0) (span f (at + 16) 4) (span f (at + 20) 4) (span f (at + 24) 4) (span f (at + 28) 8)
      ∙ ap (λ (xs : List ℕ). span f at 12 ++ u32_bytes 0 ++ xs) (rw (e1, e2, e3, span_append f 4 4 (at + 16), span_append f 8 4 (at + 16)) (span_append f 12 8 (at + 16))))

  -- in two parts of the bytes
  pub function_parts : (at : ℕ) → at + 36 ≤ length f → function_bytes (read_function f at) ≡ take 12 (drop at f) ++ (u32_bytes 0 ++ take 20 (drop (at + 16) f))
  function_parts at h =
      function_again at
      ∙ append_assoc (span f at 12) (u32_bytes 0) (span f (at + 16) 20)
      ∙ rw (span_take f 12 at (omega arith), span_take f 20 (at + 16) (omega arith)) refl

-- ---- lumps

module _ {A : Type 0} (read : List ℕ → ℕ → A) (write : A → List ℕ) (size : ℕ) where
  -- records are written as the bytes that they were read from
  records_again : (f : List ℕ) → ((at : ℕ) → write (read f at) ≡ span f at size) → (n at : ℕ) → bytes_of write (records (read f) size n at) ≡ span f at (size * n)
  unfolding bytes_of records
  records_again f again zero at = rw (mul-zero size) refl
  records_again f again (suc n) at =
      let e : size * suc n ≡ size + size * n = omega (arith, mul-suc size n) in
      rw (again at, records_again f again n (at + size), e) (span_append f size (size * n) at)

  -- and so is a lump
  lump_again : Local read size → 0 < size → (file : List ℕ) (l : Lump) → lump_fits size (length file) l ≡ true
      → ((at : ℕ) → write (read (part_of size l file) at) ≡ span (part_of size l file) at size)
      → bytes_of write (records_in (read file) size l) ≡ part_of size l file
  lump_again own some file l fits again =
      let part : List ℕ = part_of size l file in
      let whole : size * (length part / size) ≡ length part = rw (count_part read size own some file l fits) (sym (length_part read size own some file l fits)) in
      let all : bytes_of write (records_of read size part) ≡ part = records_again part again (length part / size) 0 ∙ rw whole (span_take part (length part) 0 (omega arith) ∙ take-length part) in
      rw (part_records read size own some file l fits) at all

-- bytes written as they stand
pub bytes_same : (xs : List ℕ) → bytes_of (λ x. x ∷ []) xs ≡ xs
unfolding bytes_of
bytes_same [] = refl
bytes_same (x ∷ xs) = ap (λ (ys : List ℕ). x ∷ ys) (bytes_same xs)

-- each lump of a file, where a record of the file has it, but for the functions
module _ (r : FileRecord) (file : List ℕ) (fit : AllFit (length file) r) where
  pub statements_again : Bytes (part_of 8 r.statements file) → bytes_of statement_bytes (contents_at r file).statements ≡ part_of 8 r.statements file
  unfolding contents_at
  statements_again b = lump_again read_statement statement_bytes 8 statement_local (omega arith) file r.statements fit.statements (statement_again _ b)

  pub globaldefs_again : Bytes (part_of 8 r.globaldefs file) → bytes_of definition_bytes (contents_at r file).globaldefs ≡ part_of 8 r.globaldefs file
  unfolding contents_at
  globaldefs_again b = lump_again read_definition definition_bytes 8 definition_local (omega arith) file r.globaldefs fit.globaldefs (definition_again _ b)

  pub fielddefs_again : Bytes (part_of 8 r.fielddefs file) → bytes_of definition_bytes (contents_at r file).fielddefs ≡ part_of 8 r.fielddefs file
  unfolding contents_at
  fielddefs_again b = lump_again read_definition definition_bytes 8 definition_local (omega arith) file r.fielddefs fit.fielddefs (definition_again _ b)

  pub strings_again : (contents_at r file).strings ≡ part_of 1 r.strings file
  unfolding contents_at records
  strings_again = sym (bytes_same (records_in (byte_at file) 1 r.strings)) ∙ lump_again byte_at (λ x. x ∷ []) 1 byte_local (omega arith) file r.strings fit.strings (λ at. refl)

  pub globals_again : Bytes (part_of 4 r.globals file) → bytes_of u32_bytes (contents_at r file).globals ≡ part_of 4 r.globals file
  unfolding contents_at
  globals_again b = lump_again u32_at u32_bytes 4 u32_local (omega arith) file r.globals fit.globals (u32_again _ b)
