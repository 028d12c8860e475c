-- The whole file in the output buffer, or a refusal. Assumes nothing.
use Rattle.std.specs.Prelude.{Ok, Err}
use Rattle.std.proofs.Common.{◌≡◌, ℕ, ◌+◌, ◌*◌, ◌≤◌, ◌<◌, List, ◌++◌, length, length-append, get_or, take, drop, replicate, refl, sym, ap, arith, le-leb, leb-true, leb, ltb, ltb-true, ltb-false, min, Bool, true, false, get_or-drop, length-take}
use Rattle.std.proofs.Math.ListN.{get_or-eq_default}
use Rattle.std.proofs.Math.Seq.{get_or-take}
use Rattle.std.proofs.lemmas.Bool.{lt-leb}
use Rattle.std.proofs.lemmas.List.{length-replicate}
use Rattle.definition.specs.declared.Lump.{Lump}
use Rattle.definition.specs.declared.FileRecord.{FileRecord}
use Rattle.definition.specs.declared.refusal.Refusal.TheVariants.{OutputTooShort}
use Rattle.definition.specs.Checks.{judge, guard}
use Rattle.definition.specs.File.{byte_at, contents_at}
use Rattle.definition.specs.Written.{u32_bytes, bytes_of, layout, header_numbers, written, padded, outcome_of}
use Rattle.functions.specs.Laws.{AllFit}
use Rattle.text.specs.Output.{Output, output, at_front}
use Rattle.functions.specs.Parts.{part_of}
use Rattle.writing_laws.specs.Copied.{Bytes}
use Rattle.writing_laws.specs.Written.{length_header}
use Rattle.writing_laws.specs.Lumps.{laid_out, more_cells, lumps_of, LumpBytes, length_laid_out, length_lumps, written_lumps}
use Rattle.writer.specs.Header.{Small}
use Rattle.writer.specs.Outcomes.{writing}

-- ---- the answers

module _ (bytes out : List ℕ) (n : ℕ) (size : length bytes ≡ n) where
  pub no_room : min (length out) 1048576 < n → outcome_of (Err OutputTooShort) out ≡ writing bytes out
  unfolding writing guard judge
  no_room h = by (leb n (length out)) refl
    where
      by : (t : Bool) → leb n (length out) ≡ t → outcome_of (Err OutputTooShort) out ≡ writing bytes out
      by true e = rw (size, e, lt-leb n 1048576 (omega (arith, leb-true n (length out) e))) refl
      by false e = rw (size, e) refl

  pub all_written : (out' : List ℕ) (end : ℕ) → n ≤ length out → n ≤ 1048576 → output out' end ≡ at_front bytes out → outcome_of (Ok end) out' ≡ writing bytes out
  unfolding writing guard judge
  all_written out' end h g front =
      let result : out' ≡ bytes ++ drop (length bytes) out = ap (λ (o : Output). o.bytes) front in
      let last : end ≡ length bytes = ap (λ (o : Output). o.next) front in
      rw (result, last) (rw (size, le-leb n (length out) h, le-leb n 1048576 g) refl)

-- ---- what is written

-- a lump of a file that is lent as bytes
below_256 : (n : ℕ) (xs : List ℕ) → ((i : ℕ) → get_or xs i 0 < 256) → (i : ℕ) → get_or (take n xs) i 0 < 256
below_256 n xs below i = by (ltb i n) refl
  where
    by : (t : Bool) → ltb i n ≡ t → get_or (take n xs) i 0 < 256
    by true e = rw (get_or-take n xs i 0 (ltb-true i n e)) (below i)
    by false e = rw (get_or-eq_default (take n xs) 0 {n = i} (omega (arith, length-take n xs, ltb-false i n e))) (omega arith)

lump_bytes : (r : FileRecord) (file : List ℕ) → ((i : ℕ) → get_or file i 0 < 256) → LumpBytes r file
unfolding byte_at
lump_bytes r file below = record { statements = part 8 r.statements; globaldefs = part 8 r.globaldefs; fielddefs = part 8 r.fielddefs; globals = part 4 r.globals }
  where
    part : (size : ℕ) (l : Lump) → Bytes (part_of size l file)
    part size l = record { below = below_256 (size * l.count) (drop l.offset file) (λ i. rw (get_or-drop l.offset file i 0) (below (l.offset + i))) }

module _ (r : FileRecord) (file : List ℕ) (n : ℕ) {laid : FileRecord} (is : laid ≡ laid_out (more_cells n r)) where
  pub size_written : (check : ℕ) → length (written check (padded n (contents_at r file))) ≡ laid.length
  size_written check = rw is (length_laid_out check r file n)

  -- how long the parts are
  pub size_parts : AllFit (length file) r → 60 + length (lumps_of r file) + 4 * n ≡ laid.length
  size_parts fit =
      let header : List ℕ = bytes_of u32_bytes (header_numbers 0 (laid_out (more_cells n r))) in
      rw is
      (omega (
        arith,
        length_lumps 0 r file n fit,
        length-append header (lumps_of r file ++ replicate (4 * n) 0),
        length-append (lumps_of r file) (replicate (4 * n) 0),
        length-replicate {A = ℕ} (4 * n) 0,
        length_header 0 (laid_out (more_cells n r)),
      ))

  pub parts_written : (check : ℕ) → AllFit (length file) r → ((i : ℕ) → get_or file i 0 < 256)
      → bytes_of u32_bytes (header_numbers check laid) ++ (lumps_of r file ++ replicate (4 * n) 0) ≡ written check (padded n (contents_at r file))
  parts_written check fit below = rw is (sym (written_lumps check r file n fit (lump_bytes r file below)))

-- ---- the numbers

pub small : (r : FileRecord) → (laid_out r).length ≤ 1048576 → r.entityfields < 4294967296 → Small (laid_out r)
unfolding layout
small r h e =
    record {
      statements = omega arith;
      globaldefs = omega arith;
      fielddefs = omega arith;
      functions = omega arith;
      strings = omega arith;
      globals = omega arith;
      entityfields = e;
    }
