-- The records of a part are those of its lump. Assumes nothing.
use Rattle.std.specs.Prelude.{ℕ, zero, suc, ◌+◌, ◌*◌, ◌/◌, ◌≤◌, ◌<◌, ◌≡◌, true, List, [], ◌∷◌, get_or, take, drop}
use Rattle.std.proofs.Math.Path.{refl, sym}
use Rattle.std.proofs.Common.{ap, ◌∙◌, add_assoc, add-zero, mul-zero, mul-le-mul_left, arith, get_or-drop, length-take-le}
use Rattle.std.proofs.Math.Nat.{mul-div_cancel_left, zero-add, mul-suc, mul-div-le, div-eq-sub-div}
use Rattle.std.proofs.Math.Numerals.{add-one}
use Rattle.std.proofs.Math.ListN.{length, length-drop}
use Rattle.std.proofs.Math.Seq.{drop-cons, get_or-take}
use Rattle.definition.specs.declared.Lump.{Lump}
use Rattle.definition.specs.declared.FileRecord.{FileRecord}
use Rattle.definition.specs.File.{byte_at, u16_at, u32_at, lump_fits, records, records_in, read_statement, read_definition, read_function, contents_at}
use Rattle.functions.specs.Parts.{part_of, records_of, statements_in, definitions_in, functions_in, cells_in}
use Rattle.functions.specs.Laws.{lump_end, AllFit}

-- the n bytes from i on in f are those from j on in g
pub record Same (f : List ℕ) (i : ℕ) (g : List ℕ) (j n : ℕ) : Type 0 where
  pub byte : (k : ℕ) → k < n → byte_at f (i + k) ≡ byte_at g (j + k)

-- a reader that looks at the bytes of its own record alone
abbrev pub Local : {A : Type 0} → (List ℕ → ℕ → A) → ℕ → Type 0
Local read size = (f g : List ℕ) (i j : ℕ) → Same f i g j size → read f i ≡ read g j

module _ {f g : List ℕ} {n i j : ℕ} (s : Same f i g j n) where
  -- m of them, from the d-th on
  inner : (d m : ℕ) → d + m ≤ n → Same f (i + d) g (j + d) m
  inner d m h = record { byte = λ k l. rw (add_assoc i d k, add_assoc j d k) (s.byte (d + k) (omega arith)) }

  first : (m : ℕ) → m ≤ n → Same f i g j m
  first m h = record { byte = λ k l. s.byte k (omega arith) }

pub byte_local : Local byte_at 1
byte_local f g i j s = rw (add-zero i, add-zero j) at (s.byte 0 (omega arith))

pub u16_local : Local u16_at 2
unfolding u16_at
u16_local f g i j s = let low = byte_local f g i j (first s 1 (omega arith)) in let high = s.byte 1 (omega arith) in cc

pub u32_local : Local u32_at 4
unfolding u32_at
u32_local f g i j s = let low = u16_local f g i j (first s 2 (omega arith)) in let high = u16_local _ _ _ _ (inner s 2 2 (omega arith)) in cc

-- records of a size, one behind the other
module _ {A : Type 0} (read : List ℕ → ℕ → A) (size : ℕ) (own : Local read size) where
  same_records : (f g : List ℕ) (n i j : ℕ) → Same f i g j (size * n) → records (read f) size n i ≡ records (read g) size n j
  unfolding records
  same_records f g zero i j s = refl
  same_records f g (suc n) i j s =
      let here = own f g i j (first s size (omega (arith, mul-suc size n))) in
      let rest = same_records f g n (i + size) (j + size) (inner s size (size * n) (omega (arith, mul-suc size n))) in
      cc

  -- a part that is long enough has a record more than what is behind its first
  pub records_more : 0 < size → (part : List ℕ) → size ≤ length part → records_of read size part ≡ read part 0 ∷ records_of read size (drop size part)
  unfolding records byte_at
  records_more some part h =
      let one : length part / size ≡ suc (length (drop size part) / size) = rw (div-eq-sub-div some h, add-one, length-drop size part) in
      rw one (ap (λ (rest : List A). read part 0 ∷ rest) (same_records part (drop size part) (length (drop size part) / size) (0 + size) 0 (record { byte = λ k l. rw (zero-add size, zero-add k) (sym (get_or-drop size part k 0)) })))

  module _ (some : 0 < size) (file : List ℕ) (l : Lump) (fits : lump_fits size (length file) l ≡ true) where
    pub length_part : length (part_of size l file) ≡ size * l.count
    length_part = by l.count refl
      where
        by : (n : ℕ) → l.count ≡ n → length (take (size * n) (drop l.offset file)) ≡ size * n
        by zero e = rw (mul-zero size)
        by (suc n) e =
            let ends : l.offset + size * suc n ≤ length file = rw e at (lump_end size (length file) l fits (λ (z : l.count ≡ 0). omega arith)) in
            length-take-le _ _ (rw (length-drop l.offset file) (omega arith))

    pub count_part : length (part_of size l file) / size ≡ l.count
    count_part = rw (length_part, mul-div_cancel_left l.count some)

    pub part_records : records_of read size (part_of size l file) ≡ records_in (read file) size l
    unfolding byte_at
    part_records = rw count_part (same_records _ _ _ _ _ (record { byte = λ k h. rw (zero-add k, get_or-take (size * l.count) (drop l.offset file) k 0 h) (get_or-drop l.offset file k 0) }))

pub statement_local : Local read_statement 8
statement_local f g i j s =
    let a = u16_local f g i j (first s 2 (omega arith)) in
    let b = u16_local _ _ _ _ (inner s 2 2 (omega arith)) in
    let c = u16_local _ _ _ _ (inner s 4 2 (omega arith)) in
    let d = u16_local _ _ _ _ (inner s 6 2 (omega arith)) in
    cc

pub definition_local : Local read_definition 8
definition_local f g i j s =
    let a = u16_local f g i j (first s 2 (omega arith)) in
    let b = u16_local _ _ _ _ (inner s 2 2 (omega arith)) in
    let c = u32_local _ _ _ _ (inner s 4 4 (omega arith)) in
    cc

pub function_local : Local read_function 36
function_local f g i j s =
    let a = u32_local f g i j (first s 4 (omega arith)) in
    let b = u32_local _ _ _ _ (inner s 4 4 (omega arith)) in
    let c = u32_local _ _ _ _ (inner s 8 4 (omega arith)) in
    let d = u32_local _ _ _ _ (inner s 16 4 (omega arith)) in
    let e = u32_local _ _ _ _ (inner s 20 4 (omega arith)) in
    let k = u32_local _ _ _ _ (inner s 24 4 (omega arith)) in
    let sizes = same_records byte_at 1 byte_local f g 8 (i + 28) (j + 28) (inner s 28 8 (omega arith)) in
    cc

-- records of one byte are the bytes
pub byte_records : (part : List ℕ) → records_of byte_at 1 part ≡ part
unfolding records byte_at
byte_records [] = refl
byte_records (x ∷ xs) = records_more byte_at 1 byte_local (omega arith) (x ∷ xs) (omega arith) ∙ ap (λ (rest : List ℕ). x ∷ rest) (byte_records xs)

-- and those from a place on are a piece of the bytes
pub taken_bytes : (file : List ℕ) (n at : ℕ) → at + n ≤ length file → take n (drop at file) ≡ records (byte_at file) 1 n at
unfolding records byte_at
taken_bytes file zero at h = refl
taken_bytes file (suc n) at h = rw (drop-cons file at 0 (omega arith), ← add-one at) (ap (λ (rest : List ℕ). get_or file at 0 ∷ rest) (taken_bytes file n (at + 1) (omega arith)))

-- ---- one record of a part

pub record_ends : (size n k : ℕ) → 0 < size → k < n / size → size * k + size ≤ n
record_ends size n k some h = omega (arith, mul-le-mul_left size h, mul-suc size k, mul-div-le n size)

-- ---- the parts of a file

module _ (r : FileRecord) (file : List ℕ) (fit : AllFit (length file) r) where
  pub part_statements : statements_in (part_of 8 r.statements file) ≡ (contents_at r file).statements
  unfolding contents_at
  part_statements = part_records read_statement 8 statement_local (omega arith) file r.statements fit.statements

  pub part_globaldefs : definitions_in (part_of 8 r.globaldefs file) ≡ (contents_at r file).globaldefs
  unfolding contents_at
  part_globaldefs = part_records read_definition 8 definition_local (omega arith) file r.globaldefs fit.globaldefs

  pub part_fielddefs : definitions_in (part_of 8 r.fielddefs file) ≡ (contents_at r file).fielddefs
  unfolding contents_at
  part_fielddefs = part_records read_definition 8 definition_local (omega arith) file r.fielddefs fit.fielddefs

  pub part_functions : functions_in (part_of 36 r.functions file) ≡ (contents_at r file).functions
  unfolding contents_at
  part_functions = part_records read_function 36 function_local (omega arith) file r.functions fit.functions

  pub part_globals : cells_in (part_of 4 r.globals file) ≡ (contents_at r file).globals
  unfolding contents_at
  part_globals = part_records u32_at 4 u32_local (omega arith) file r.globals fit.globals

  pub part_strings : part_of 1 r.strings file ≡ (contents_at r file).strings
  unfolding contents_at
  part_strings = sym (byte_records _) ∙ part_records byte_at 1 byte_local (omega arith) file r.strings fit.strings
