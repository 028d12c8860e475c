-- THE WRITTEN FILE, document 02's R-6: its length, its header, and that it says what was written.
use Prim.Native.Nat.{ℕ, zero, suc, ◌+◌, ◌*◌, ◌<◌}
use Rattle.std.specs.Prelude.{◌≡◌, length}
use Rattle.std.proofs.Math.Path.{refl, ap}
use Rattle.std.proofs.Common.{sym, ◌∙◌, zero-add, one-mul, add_assoc, not-suc-le-zero, le_of_suc-le-suc, arith, length-append}
use mathlib.Core.List.{List, [], ◌∷◌, ◌++◌}
use Rattle.std.proofs.Math.ListN.{get_or}
use Rattle.definition.specs.declared.FileRecord.{FileRecord}
use Rattle.definition.specs.declared.FunctionDef.{FunctionDef}
use Rattle.definition.specs.File.{version_of, check_number_of, file_of, byte_at, u16_at, u32_at, records, Contents, contents_at, contents_of}
use Rattle.definition.proofs.RecordLaws.{get_d_records}
use Rattle.definition.specs.Written.{u16_bytes, u32_bytes, statement_bytes, definition_bytes, function_bytes, bytes_of, layout, layout_of, header_numbers, written}
use Rattle.functions.specs.PartLaws.{Same, u32_local}
use Rattle.writing_laws.specs.ReadBack.{Holds, holds_itself, holds_front, holds_back, Each, each_any, length_bytes, records_back, bytes, numbers, statements, definitions, Eight, functions}
use Rattle.writing_laws.specs.Copied.{bytes_same}

-- every function has eight argument sizes: so it is in the contents of any file
abbrev pub AllEight : Contents → Type 0
AllEight k = Each Eight k.functions

-- ---- the header

module _ (f : List ℕ) (check : ℕ) (r : FileRecord) (h : Holds f 0 (bytes_of u32_bytes (header_numbers check r))) where
  -- number i of the header
  number_back : (i : ℕ) → i < 15 → u32_at f (4 * i) ≡ get_or (header_numbers check r) i 0
  unfolding header_numbers
  number_back i l =
      let all : records (u32_at f) 4 15 0 ≡ header_numbers check r = records_back numbers f 0 (header_numbers check r) (each_any (header_numbers check r)) h in
      rw (zero-add (4 * i)) at (sym (get_d_records (u32_at f) 4 15 0 i 0 l)) ∙ ap (λ (xs : List ℕ). get_or xs i 0) all

  version_back : version_of f ≡ 6
  unfolding header_numbers
  version_back = number_back 0 (omega arith)

  check_back : check_number_of f ≡ check
  unfolding header_numbers
  check_back = number_back 1 (omega arith)

  file_back : length f ≡ r.length → file_of f ≡ r
  unfolding header_numbers file_of
  file_back e =
      let at : (i : ℕ) → i < 15 → u32_at f (4 * i) ≡ get_or (header_numbers check r) i 0 = number_back in
      rw (e, at 2 (omega arith), at 3 (omega arith), at 4 (omega arith), at 5 (omega arith), at 6 (omega arith), at 7 (omega arith), at 8 (omega arith))
      (rw (at 9 (omega arith), at 10 (omega arith), at 11 (omega arith), at 12 (omega arith), at 13 (omega arith), at 14 (omega arith)) refl)

pub length_header : (check : ℕ) (r : FileRecord) → length (bytes_of u32_bytes (header_numbers check r)) ≡ 60
unfolding header_numbers
length_header check r = length_bytes numbers (header_numbers check r) (each_any (header_numbers check r))

-- ---- profile numbers

-- bytes 12 to 15 of a written function
zero_profile : (d : FunctionDef) → u32_at (function_bytes d) 12 ≡ 0
unfolding function_bytes u32_bytes u16_bytes u32_at u16_at byte_at
zero_profile d = refl

profiles : (f : List ℕ) (at : ℕ) (ds : List FunctionDef) → Each Eight ds → Holds f at (bytes_of function_bytes ds) → (i : ℕ) → i < length ds → u32_at f (at + 36 * i + 12) ≡ 0
unfolding bytes_of
profiles f at [] ok h i l = absurd (not-suc-le-zero l)
profiles f at (d ∷ ds) ok h zero l =
    let here = holds_front (function_bytes d) (bytes_of function_bytes ds) h in
    let place : at + 36 * 0 + 12 ≡ at + 12 = omega arith in
    let same : Same f (at + 12) (function_bytes d) 12 4 = record { byte = λ k n. rw (add_assoc at 12 k) (here.byte (12 + k) (omega (arith, functions.sized d ok.0))) } in
    rw place (u32_local f (function_bytes d) (at + 12) 12 same ∙ zero_profile d)
profiles f at (d ∷ ds) ok h (suc i) l =
    let behind = rw (functions.sized d ok.0) at (holds_back (function_bytes d) (bytes_of function_bytes ds) h) in
    let place : at + 36 * suc i + 12 ≡ at + 36 + 36 * i + 12 = omega arith in
    rw place (profiles f (at + 36) ds ok.1 behind i (le_of_suc-le-suc l))

-- ---- parts one behind the other

longer : (before part : List ℕ) {end n : ℕ} → length before ≡ end → length part ≡ n → length (before ++ part) ≡ end + n
longer before part e l = length-append before part ∙ cc

holds_behind : {f : List ℕ} (before part : List ℕ) {end : ℕ} → length before ≡ end → Holds f 0 (before ++ part) → Holds f end part
holds_behind before part e h = rw (zero-add (length before), e) at (holds_back before part h)

-- ---- lumps one behind the other

pub record Gapless (r : FileRecord) : Type 0 where
  pub of_s : r.statements.offset ≡ 60
  pub of_g : r.globaldefs.offset ≡ r.statements.offset + 8 * r.statements.count
  pub of_d : r.fielddefs.offset ≡ r.globaldefs.offset + 8 * r.globaldefs.count
  pub of_u : r.functions.offset ≡ r.fielddefs.offset + 8 * r.fielddefs.count
  pub of_t : r.strings.offset ≡ r.functions.offset + 36 * r.functions.count
  pub of_c : r.globals.offset ≡ r.strings.offset + r.strings.count
  pub of_end : r.length ≡ r.globals.offset + 4 * r.globals.count

-- ---- the parts of the written file

module _ (check : ℕ) (k : Contents) (eight : AllEight k) where
  abbrev header : List ℕ
  header = bytes_of u32_bytes (header_numbers check (layout_of k))

  abbrev s : List ℕ
  s = bytes_of statement_bytes k.statements

  abbrev g : List ℕ
  g = bytes_of definition_bytes k.globaldefs

  abbrev d : List ℕ
  d = bytes_of definition_bytes k.fielddefs

  abbrev u : List ℕ
  u = bytes_of function_bytes k.functions

  abbrev t : List ℕ
  t = k.strings

  abbrev c : List ℕ
  c = bytes_of u32_bytes k.globals

  pub record Lengths : Type 0 where
    pub of_header : length header ≡ 60
    pub of_s : length (header ++ s) ≡ (layout_of k).globaldefs.offset
    pub of_g : length (header ++ s ++ g) ≡ (layout_of k).fielddefs.offset
    pub of_d : length (header ++ s ++ g ++ d) ≡ (layout_of k).functions.offset
    pub of_u : length (header ++ s ++ g ++ d ++ u) ≡ (layout_of k).strings.offset
    pub of_t : length (header ++ s ++ g ++ d ++ u ++ t) ≡ (layout_of k).globals.offset
    pub of_c : length (header ++ s ++ g ++ d ++ u ++ t ++ c) ≡ (layout_of k).length

  -- each lump ends where the layout has the next one
  lengths : Lengths
  unfolding layout
  lengths =
      let e0 = length_header check (layout_of k) in
      let e1 = longer header s e0 (length_bytes statements k.statements (each_any k.statements)) in
      let e2 = longer (header ++ s) g e1 (length_bytes definitions k.globaldefs (each_any k.globaldefs)) in
      let e3 = longer (header ++ s ++ g) d e2 (length_bytes definitions k.fielddefs (each_any k.fielddefs)) in
      let e4 = longer (header ++ s ++ g ++ d) u e3 (length_bytes functions k.functions eight) in
      let e5 = longer (header ++ s ++ g ++ d ++ u) t e4 (sym (one-mul (length t))) in
      let e6 = longer (header ++ s ++ g ++ d ++ u ++ t) c e5 (length_bytes numbers k.globals (each_any k.globals)) in
      record { of_header = e0; of_s = e1; of_g = e2; of_d = e3; of_u = e4; of_t = e5; of_c = e6 }

  pub length_written : length (written check k) ≡ (layout_of k).length
  unfolding written
  length_written = lengths.of_c

  -- and stands where the layout has it
  pub record Places : Type 0 where
    pub of_header : Holds (written check k) 0 header
    pub of_s : Holds (written check k) (layout_of k).statements.offset s
    pub of_g : Holds (written check k) (layout_of k).globaldefs.offset g
    pub of_d : Holds (written check k) (layout_of k).fielddefs.offset d
    pub of_u : Holds (written check k) (layout_of k).functions.offset u
    pub of_t : Holds (written check k) (layout_of k).strings.offset t
    pub of_c : Holds (written check k) (layout_of k).globals.offset c

  places : Places
  unfolding written layout
  places =
      let h6 = holds_itself (written check k) in
      let h5 = holds_front (header ++ s ++ g ++ d ++ u ++ t) c h6 in
      let h4 = holds_front (header ++ s ++ g ++ d ++ u) t h5 in
      let h3 = holds_front (header ++ s ++ g ++ d) u h4 in
      let h2 = holds_front (header ++ s ++ g) d h3 in
      let h1 = holds_front (header ++ s) g h2 in
      record {
        of_header = holds_front header s h1;
        of_s = holds_behind header s lengths.of_header h1;
        of_g = holds_behind (header ++ s) g lengths.of_s h2;
        of_d = holds_behind (header ++ s ++ g) d lengths.of_g h3;
        of_u = holds_behind (header ++ s ++ g ++ d) u lengths.of_d h4;
        of_t = holds_behind (header ++ s ++ g ++ d ++ u) t lengths.of_u h5;
        of_c = holds_behind (header ++ s ++ g ++ d ++ u ++ t) c lengths.of_t h6;
      }

  -- ---- its header

  pub version_written : version_of (written check k) ≡ 6
  version_written = version_back (written check k) check (layout_of k) places.of_header

  pub check_written : check_number_of (written check k) ≡ check
  check_written = check_back (written check k) check (layout_of k) places.of_header

  pub file_written : file_of (written check k) ≡ layout_of k
  file_written = file_back (written check k) check (layout_of k) places.of_header length_written

  -- "header, then the six lumps in header order without gaps", in 01's numbers and by its own header: the first lump starts behind the header, each of the others
  -- where the one before it ends, and the file ends with the last
  pub without_gaps : Gapless (file_of (written check k))
  unfolding layout
  without_gaps = rw file_written (record { of_s = refl; of_g = refl; of_d = refl; of_u = refl; of_t = refl; of_c = rw (one-mul (length k.strings)) refl; of_end = refl })

  -- ---- what it says

  pub contents_written : contents_of (written check k) ≡ k
  unfolding contents_at layout
  contents_written =
      let f : List ℕ = written check k in
      let p = places in
      let of_s = records_back statements f (layout_of k).statements.offset k.statements (each_any k.statements) p.of_s in
      let of_g = records_back definitions f (layout_of k).globaldefs.offset k.globaldefs (each_any k.globaldefs) p.of_g in
      let of_d = records_back definitions f (layout_of k).fielddefs.offset k.fielddefs (each_any k.fielddefs) p.of_d in
      let of_u = records_back functions f (layout_of k).functions.offset k.functions eight p.of_u in
      let of_t = records_back bytes f (layout_of k).strings.offset k.strings (each_any k.strings) (rw (bytes_same k.strings) p.of_t) in
      let of_c = records_back numbers f (layout_of k).globals.offset k.globals (each_any k.globals) p.of_c in
      rw (file_written, of_s, of_g, of_d, of_u, of_t, of_c) refl

  -- "profile numbers 0"
  pub profiles_written : (i : ℕ) → i < length k.functions → u32_at (written check k) ((layout_of k).functions.offset + 36 * i + 12) ≡ 0
  profiles_written i l = profiles (written check k) (layout_of k).functions.offset k.functions eight places.of_u i l
