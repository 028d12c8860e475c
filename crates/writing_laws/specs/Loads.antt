-- THE LAWS OF DOCUMENT 02, R-6, on what is written: it loads and says the same; written again it is the same; files that say the same are written alike.
use Prim.Native.Nat.{ℕ, zero, suc, ◌+◌, ◌*◌, ◌≤◌}
use Rattle.std.specs.Prelude.{◌≡◌, true, false, ◌&&◌, ◌||◌, ℤ, length, take, drop, eqb}
use Rattle.std.proofs.Math.Path.{refl, ap, subst}
use Rattle.std.proofs.Common.{sym, ◌∙◌, inr, mul-le-mul_right, one-mul, arith}
use Rattle.std.proofs.Math.Logic.{inl}
use mathlib.Core.List.{List, ◌∷◌, ◌++◌}
use Rattle.std.proofs.Math.Bool.{Bool}
use Rattle.std.proofs.Math.Seq.{take_at, drop_at}
use Rattle.std.proofs.Math.Dec.{leb}
use borrow.Author.Tests.{leb-true, le-leb, lt-leb, eq-eqb}
use Rattle.definition.specs.declared.Lump.{Lump}
use Rattle.definition.specs.declared.FileRecord.{FileRecord}
use Rattle.definition.specs.declared.Settings.{Settings}
use Rattle.definition.specs.Checks.{Conditions, ◌otherwise◌, refused, accepted}
use Rattle.definition.specs.File.{byte_at, least_cells, longest_file, saved_store, file_of, lump_fits, lumps_fit, records, read_function, Contents, contents_at, contents_of, settings_fit}
use Rattle.definition.specs.Machine.{Config, entities_fit}
use Rattle.definition.specs.Load.{header_conditions, record_conditions, cell_conditions, entity_conditions, loaded, entities_given, load, program_of}
use Rattle.definition.specs.Operations.{sound}
use Rattle.definition.specs.CheckLaws.{All}
use Rattle.definition.proofs.CheckLaws.{and_both, and_left, and_right, all_both, guard_accepts, guard_refuses, accepted_all}
use Rattle.definition.proofs.LoadLaws.{load_rows_law}
use Rattle.definition.proofs.RecordLaws.{length_records, length_globals}
use Rattle.definition.specs.Written.{end_of, layout, layout_of, written, Image, placed, image, write_conditions, write_file, write_outcome}
use Rattle.writing_laws.specs.ReadBack.{Each, Eight}
use Rattle.writing_laws.specs.Written.{AllEight, length_written, version_written, check_written, file_written, contents_written}

-- ---- a file's functions have eight argument sizes each, whatever its bytes are

eight_records : (file : List ℕ) (n at : ℕ) → Each Eight (records (read_function file) 36 n at)
unfolding records
eight_records file zero at = tt
eight_records file (suc n) at = (length_records (byte_at file) 1 8 (at + 28), eight_records file n (at + 36))

pub eight_at : (r : FileRecord) (file : List ℕ) → AllEight (contents_at r file)
unfolding contents_at
eight_at r file = eight_records file r.functions.count r.functions.offset

eight : (file : List ℕ) → AllEight (contents_of file)
eight file = eight_at (file_of file) file

-- ---- the written file loads

or_true : (b : Bool) → (b || true) ≡ true
or_true true = refl
or_true false = refl

-- neither number of a lump that ends in so short a file is negative
lump_fits_law : (size end : ℕ) (l : Lump) → 1 ≤ size → end_of size l ≤ end → end ≤ 1048576 → lump_fits size end l ≡ true
lump_fits_law size end l some inside short =
    let many : 1 * l.count ≤ size * l.count = mul-le-mul_right l.count some in
    rw (lt-leb 2147483648 l.offset (omega arith), lt-leb 2147483648 l.count (omega (arith, one-mul l.count)), le-leb (end_of size l) end inside) (or_true (eqb l.count 0))

pub layout_fits : (s g d u t c e : ℕ) → (layout s g d u t c e).length ≤ 1048576 → lumps_fit (layout s g d u t c e) ≡ true
unfolding layout lumps_fit
layout_fits s g d u t c e h =
    let r : FileRecord = layout s g d u t c e in
    and_both _ _
    (and_both _ _
    (and_both _ _
    (and_both _ _
    (and_both _ _
    (lump_fits_law 8 r.length r.statements (omega arith) (omega arith) h)
    (lump_fits_law 8 r.length r.globaldefs (omega arith) (omega arith) h))
    (lump_fits_law 8 r.length r.fielddefs (omega arith) (omega arith) h))
    (lump_fits_law 36 r.length r.functions (omega arith) (omega arith) h))
    (lump_fits_law 1 r.length r.strings (omega arith) (omega arith) h))
    (lump_fits_law 4 r.length r.globals (omega arith) (omega arith) h)

-- the row "header", of a file that is written with the check number that a load asks for
pub header_loads : (check : ℕ) (k : Contents) → AllEight k → length (written check k) ≤ longest_file → All (header_conditions check (written check k))
unfolding header_conditions layout
header_loads check k e h =
    let file : file_of (written check k) ≡ layout_of k = file_written check k e in
    let size : length (written check k) ≡ (layout_of k).length = length_written check k e in
    let short : (layout_of k).length ≤ 1048576 = rw size at h in (
      rw file (and_both _ _ (le-leb 60 (layout_of k).length (omega arith)) (le-leb (layout_of k).length 1048576 short)),
      (
        eq-eqb _ 6 (version_written check k e),
        (
          eq-eqb _ check (check_written check k e),
          (rw file (layout_fits _ _ _ _ _ _ _ short), tt),
        ),
      ),
    )

-- what a load counts of a file is as many as the contents have
pub counts_strings : (file : List ℕ) → length (contents_of file).strings ≡ (file_of file).strings.count
unfolding contents_at
counts_strings file = length_records (byte_at file) 1 _ _

-- ---- of a file that a load accepted, under any settings and beside whatever was lent to it

pub record Accepted (file : List ℕ) : Type 0 where
  pub settings : Settings
  pub number : ℤ
  pub cells : List ℕ
  pub saved : List ℕ
  pub entities : List ℕ
  pub config : Config
  pub loads : load settings file number cells saved entities ≡ accepted config

-- what 12 asks of the lent cells and the saved store, and 13 of the entities and their lent cells
pub record Lent (file : List ℕ) (number : ℤ) (cells saved entities : List ℕ) : Type 0 where
  pub enough : (file_of file).globals.count ≤ length cells
  pub store : saved_store ≤ length saved
  pub fields : entities_fit (entities_given number) (file_of file).entityfields (length entities) ≡ true

module _ (check : ℕ) (file : List ℕ) where
  -- "With the program bytes as loaded, the written file loads to equal statements, functions, definitions, strings, starting cells and cells per entity":
  -- it says the same,
  pub written_says : contents_of (image check file) ≡ contents_of file
  written_says = contents_written check (contents_of file) (eight file)

  -- so it has as many cells, and as many to an entity,
  cells_written : (file_of (image check file)).globals.count ≡ (file_of file).globals.count
  cells_written = sym (length_globals (image check file)) ∙ ap (λ (k : Contents). length k.globals) written_says ∙ length_globals file

  entities_written : (file_of (image check file)).entityfields ≡ (file_of file).entityfields
  unfolding contents_at
  entities_written = ap (λ (k : Contents). k.entityfields) written_says

  strings_written : (file_of (image check file)).strings.count ≡ (file_of file).strings.count
  strings_written = sym (counts_strings (image check file)) ∙ ap (λ (k : Contents). length k.strings) written_says ∙ counts_strings file

  -- "Writing it again yields the same bytes"
  pub written_again : image check (image check file) ≡ image check file
  written_again = ap (written check) written_says

-- and it loads, under settings in range whose check number it was written with (R-11: "its laws being for loads under one check number"), where it isn't too
-- long (34) and as much is lent as 12 and 13 ask
module _ (s : Settings) (file : List ℕ) (number : ℤ) (cells saved entities : List ℕ) where
  abbrev check : ℕ
  check = s.check_number

  pub written_loads : settings_fit s ≡ true → Accepted file → length (image check file) ≤ longest_file → Lent file number cells saved entities
      → load s (image check file) number cells saved entities ≡ accepted (loaded s (image check file) (entities_given number) cells saved entities)
  unfolding load cell_conditions
  written_loads fit a short lent =
      let rows = load_rows_law least_cells a.settings.check_number file (entities_given a.number) (length a.cells) (length a.saved) (length a.entities) (accepted_all _ _ _ a.loads).0.1 in
      let w : List ℕ = image check file in
      let hs : Conditions = header_conditions check w in
      let rs : Conditions = record_conditions (file_of w).strings.count (contents_of w) in
      let cs : Conditions = cell_conditions least_cells (file_of w) (length cells) (length saved) in
      let es : Conditions = entity_conditions (file_of w) (entities_given number) (length entities) in
      let of_header : All hs = header_loads check (contents_of file) (eight file) short in
      let of_records : All rs = rw (written_says check file, strings_written check file) rows.records in
      let of_lent = and_both (leb (file_of file).globals.count (length cells)) (leb saved_store (length saved)) (le-leb _ _ lent.enough) (le-leb _ _ lent.store) in
      let of_cells : All cs = rw (cells_written check file, entities_written check file) (rows.cells.0, (rows.cells.1.0, (of_lent, tt))) in
      let of_entities : All es = rw (entities_written check file) (lent.fields, tt) in
      guard_accepts ((settings_fit s otherwise 36) ∷ hs ++ rs ++ cs ++ es) (loaded s w (entities_given number) cells saved entities)
      (fit, all_both (hs ++ rs ++ cs) es (all_both (hs ++ rs) cs (all_both hs rs of_header of_records) of_cells) of_entities)

  -- with the same cells as a load of the file itself leaves
  pub written_starts : (loaded s (image check file) (entities_given number) cells saved entities).cells ≡ (loaded s file (entities_given number) cells saved entities).cells
  unfolding loaded
  written_starts = rw (written_says check file, cells_written check file) refl

-- "Two accepted files with the same contents apart from profile numbers and placement are written alike": contents have neither, so files have the same
-- contents apart from them exactly where their `contents_of` is the same. Also the other way: files that are written alike say the same.
pub written_alike : (check : ℕ) (file file' : List ℕ) → contents_of file ≡ contents_of file' → image check file ≡ image check file'
written_alike check file file' e = ap (written check) e

pub alike_says : (check : ℕ) (file file' : List ℕ) → image check file ≡ image check file' → contents_of file ≡ contents_of file'
alike_says check file file' e = sym (written_says check file) ∙ ap contents_of e ∙ written_says check file'

-- ---- the operation

module _ (file output : List ℕ) (c : Config) where
  -- the check number that the state holds
  abbrev held : ℕ
  held = c.state.settings.check_number

  -- what an accepted one leaves: the written file at the front of the output buffer, whose other bytes stay
  pub record Writes (i : Image) : Type 0 where
    pub size : i.length ≡ length (image held file)
    pub front : take i.length i.output ≡ image held file
    pub rest : drop i.length i.output ≡ drop i.length output
    pub room : i.length ≤ length output
    pub short : i.length ≤ longest_file

  pub accepted_writes : (i : Image) → write_file file output c ≡ accepted i → Writes i
  unfolding write_file write_conditions
  accepted_writes i e =
      let all = accepted_all _ _ _ e in
      let fits : Bool = leb (length (image held file)) (length output) in
      let short : Bool = leb (length (image held file)) longest_file in
      let made : placed (image held file) output ≡ i = all.1 in
      subst Writes made
      (record {
        size = refl;
        front = take_at (image held file) (drop (length (image held file)) output) (length (image held file)) refl;
        rest = drop_at (image held file) (drop (length (image held file)) output) (length (image held file)) refl;
        room = leb-true _ _ (and_left fits short all.0.1.0);
        short = leb-true _ _ (and_right fits short all.0.1.0);
      })

  -- and what was written is loaded under the check number held: the whole sentence, of the bytes in the buffer
  pub written_is_loaded : Accepted file → (i : Image) → write_file file output c ≡ accepted i
      → (s : Settings) → settings_fit s ≡ true → s.check_number ≡ held → (number : ℤ) (cells saved entities : List ℕ) → Lent file number cells saved entities
      → (load s (take i.length i.output) number cells saved entities ≡ accepted (loaded s (image held file) (entities_given number) cells saved entities))
      × (contents_of (take i.length i.output) ≡ contents_of file)
  written_is_loaded a i e s fit same number cells saved entities lent =
      let w = accepted_writes i e in
      let short : length (image held file) ≤ longest_file = rw w.size at w.short in
      rw w.front (
        subst (λ (check : ℕ). load s (image check file) number cells saved entities ≡ accepted (loaded s (image check file) (entities_given number) cells saved entities)) same
            (written_loads s file number cells saved entities fit a (rw (← same) at short) lent),
        written_says held file,
      )

  -- ---- accepted exactly when, refused exactly when

  -- 13 before 34, whatever the output buffer is
  pub refuses_13 : sound (program_of file) c ≡ false → write_file file output c ≡ refused 13
  unfolding write_file write_conditions
  refuses_13 e = guard_refuses _ _ 12 (inl (e, refl))

  -- a written file that is longer than the output buffer, or than any file may be
  pub refuses_34 : sound (program_of file) c ≡ true → (leb (length (image held file)) (length output) && leb (length (image held file)) longest_file) ≡ false
      → write_file file output c ≡ refused 34
  unfolding write_file write_conditions
  refuses_34 e h = guard_refuses _ _ 33 (inr (e, inl (h, refl)))

  pub accepts : sound (program_of file) c ≡ true → length (image held file) ≤ length output → length (image held file) ≤ longest_file
      → write_file file output c ≡ accepted (placed (image held file) output)
  unfolding write_file write_conditions
  accepts e room short =
      guard_accepts _ _ (e, (and_both (leb (length (image held file)) (length output)) (leb (length (image held file)) longest_file) (le-leb _ _ room) (le-leb _ _ short), tt))

  -- ---- what is answered, and the output buffer after it: one of these three

  pub answers_13 : sound (program_of file) c ≡ false
      → write_outcome output (write_file file output c) ≡ record { answer = refused 13; output = output }
  answers_13 e = rw (refuses_13 e) refl

  pub answers_34 : sound (program_of file) c ≡ true → (leb (length (image held file)) (length output) && leb (length (image held file)) longest_file) ≡ false
      → write_outcome output (write_file file output c) ≡ record { answer = refused 34; output = output }
  answers_34 e h = rw (refuses_34 e h) refl

  pub answers_length : sound (program_of file) c ≡ true → length (image held file) ≤ length output → length (image held file) ≤ longest_file
      → write_outcome output (write_file file output c)
      ≡ record { answer = accepted (length (image held file)); output = image held file ++ drop (length (image held file)) output }
  answers_length e room short = rw (accepts e room short) refl

  -- "and nothing is written"
  pub refused_keeps : (n : ℕ) → write_file file output c ≡ refused n → (write_outcome output (write_file file output c)).output ≡ output
  refused_keeps n e = rw e refl
