-- The 16-bit numbers of the part that has the statements are those of the statements; and what an unpacking answers. Assumes nothing.
use Rattle.std.proofs.Common.{ℕ, zero, suc, ◌+◌, ◌*◌, ◌/◌, ◌≤◌, ◌<◌, ◌≡◌, refl, sym, ◌∙◌, ap, List, ◌++◌, true, false, length, drop, arith, le-leb}
use Rattle.std.proofs.lemmas.Bool.{lt-leb}
use Rattle.std.specs.Prelude.{Ok, Err}
use Rattle.std.proofs.Math.Nat.{mul-div_cancel_left}
use Rattle.definition.specs.declared.FileRecord.{FileRecord}
use Rattle.definition.specs.declared.refusal.Refusal.TheVariants.{State, UnpackBufferTooShort}
use Rattle.definition.specs.Checks.{judge, guard}
use Rattle.definition.specs.File.{records, read_statement, u16_at, numbers_of, file_of, contents_at}
use Rattle.definition.specs.Machine.{Config}
use Rattle.definition.specs.Load.{program_with, program_of}
use Rattle.definition.specs.Operations.{sound}
use Rattle.definition.specs.Unpacked.{buffer_after, unpack}
use Rattle.functions.specs.Laws.{AllFit}
use Rattle.functions.specs.Parts.{part_of, records_of}
use Rattle.functions.specs.PartLaws.{statement_local, length_part, count_part, part_statements}
use Rattle.unpacked.specs.Numbers.{unpacked_of, unpack_outcome}

-- the 16-bit numbers of a part
abbrev numbers_in : List ℕ → List ℕ
numbers_in part = records_of u16_at 2 part

numbers_of_records : (part : List ℕ) (n at : ℕ) → numbers_of (records (read_statement part) 8 n at) ≡ records (u16_at part) 2 (4 * n) at
unfolding numbers_of records
numbers_of_records part zero at = refl
numbers_of_records part (suc n) at =
    let four : 4 * suc n ≡ suc (suc (suc (suc (4 * n)))) = omega arith in
    let a : at + 2 + 2 ≡ at + 4 = omega arith in
    let b : at + 4 + 2 ≡ at + 6 = omega arith in
    let c : at + 6 + 2 ≡ at + 8 = omega arith in
    rw (four, a, b, c, numbers_of_records part n (at + 8)) refl

module _ (r : FileRecord) (file : List ℕ) (fit : AllFit (length file) r) where
  abbrev part : List ℕ
  part = part_of 8 r.statements file

  count_numbers : length part / 2 ≡ 4 * r.statements.count
  count_numbers =
      let bytes : length part ≡ 8 * r.statements.count = length_part read_statement 8 statement_local (omega arith) file r.statements fit.statements in
      let twice : 8 * r.statements.count ≡ 2 * (4 * r.statements.count) = omega arith in
      let some : 0 < 2 = omega arith in
      rw (bytes, twice, mul-div_cancel_left (4 * r.statements.count) some)

  numbers_here : numbers_in part ≡ numbers_of (contents_at r file).statements
  numbers_here =
      let n = count_part read_statement 8 statement_local (omega arith) file r.statements fit.statements in
      rw count_numbers (sym (numbers_of_records part r.statements.count 0))
      ∙ ap (λ (k : ℕ). numbers_of (records (read_statement part) 8 k 0)) (sym n)
      ∙ ap numbers_of (part_statements r file fit)

  -- the buffer after the numbers were written
  pub written : r ≡ file_of file → (buffer b p : List ℕ) → p ≡ part → b ≡ numbers_in p ++ drop (length p / 2) buffer → b ≡ buffer_after file buffer
  unfolding buffer_after
  written same buffer b p here e =
      rw here at e
      ∙ ap (λ (xs : List ℕ). xs ++ drop (length part / 2) buffer) numbers_here
      ∙ ap (λ (n : ℕ). numbers_of (contents_at r file).statements ++ drop n buffer) count_numbers
      ∙ ap (λ (q : FileRecord). numbers_of (contents_at q file).statements ++ drop (4 * q.statements.count) buffer) same

module _ (file buffer : List ℕ) (c : Config) where
  pub refused_13 : sound (program_of file) c ≡ false → unpacked_of (Err State) buffer ≡ unpack_outcome buffer (unpack file buffer c)
  unfolding unpack guard judge
  refused_13 e = rw e

  module _ (s : sound (program_of file) c ≡ true) (r : FileRecord) (same : r ≡ file_of file) where
    pub refused_37 : length buffer < 4 * r.statements.count → unpacked_of (Err UnpackBufferTooShort) buffer ≡ unpack_outcome buffer (unpack file buffer c)
    unfolding unpack guard judge program_with
    refused_37 h = rw (s, lt-leb (4 * (file_of file).statements.count) (length buffer) (rw (← same) h))

    pub unpacked : 4 * r.statements.count ≤ length buffer → (b : List ℕ) → b ≡ buffer_after file buffer → unpacked_of (Ok tt) b ≡ unpack_outcome buffer (unpack file buffer c)
    unfolding unpack guard judge program_with
    unpacked h b e = rw (s, le-leb (4 * (file_of file).statements.count) (length buffer) (rw (← same) h), e)
