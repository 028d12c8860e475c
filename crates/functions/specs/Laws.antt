-- LAWS of the definition's records, header and fetch, for this crate and those above. Assumes nothing.
use Rattle.std.specs.Prelude.{ℕ, zero, suc, ◌+◌, ◌*◌, ◌≤◌, ◌<◌, ◌≡◌, List, ◌∷◌, Some, None, Bool, true, false, not, ◌&&◌, ◌||◌, length, get_or, leb, ltb, ℤ, pos, negsuc}
use Rattle.std.proofs.Math.Path.{refl}
use Rattle.std.proofs.Common.{sym, ap, true≢false, mul-le-mul_left, arith, ltb-true, leb-true, leb-false, eqb-true, ne_eqb}
use Rattle.std.proofs.lemmas.Bool.{lt-leb, not-true, and_parts}
use Rattle.definition.specs.declared.Lump.{Lump}
use Rattle.definition.specs.declared.FileRecord.{FileRecord}
use Rattle.definition.specs.declared.Statement.{Statement}
use Rattle.definition.specs.Checks.{Conditions, ◌otherwise◌, judge, decided, refused, guard}
use Rattle.definition.specs.File.{records_in, read_function, no_function, negative, Contents, contents_at}
use Rattle.definition.specs.File.{file_of, length_fits, lump_fits, lumps_fit, least_cells, cells_fit, entity_fits}
use Rattle.definition.proofs.RecordLaws.{length_records}
use Rattle.definition.specs.Load.{same_lump, same_file, recorded_in, program_with, program_of}
use Rattle.definition.specs.Machine.{function_of, entities_fit}
use Rattle.definition.specs.Statements.{Does, Entities, refuses, or_refused, place_of, statement_at, fetch_conditions, execute, does_at}
use Rattle.functions.specs.Answers.{function_id, found, fetched}
use Rattle.functions.specs.Numbers as numbers

-- ---- tests

pub both : (a b : Bool) → (a && b) ≡ true → (a ≡ true) × (b ≡ true)
both a b e = and_parts a b e

pub either : (a b : Bool) → (a || b) ≡ true → a ≡ false → b ≡ true
either true b e f = absurd (true≢false f)
either false b e f = e

-- ---- lumps

-- the records of a lump that isn't empty end in the file
pub lump_end : (size end : ℕ) (l : Lump) → lump_fits size end l ≡ true → (l.count ≡ 0 → ⊥) → l.offset + size * l.count ≤ end
lump_end size end l e some =
    let signs = and_parts (not (negative l.offset) && not (negative l.count)) _ e in
    leb-true _ _ (either _ _ signs.1 (ne_eqb _ _ some))

-- what it is for a lump to fit
pub record Fitting (size end : ℕ) (l : Lump) : Type 0 where
  pub offset : l.offset < 2147483648
  pub count : l.count < 2147483648
  -- record i ends in the file
  pub record_at_law : (i : ℕ) → i < l.count → l.offset + size * i + size ≤ end

pub lump_fitting : (size end : ℕ) (l : Lump) → lump_fits size end l ≡ true → Fitting size end l
lump_fitting size end l e =
    let signs = and_parts _ _ e in
    let s = and_parts _ _ signs.0 in
    record {
      offset = leb-false _ _ (not-true _ s.0);
      count = leb-false _ _ (not-true _ s.1);
      record_at_law = λ i h. last i h (lump_end size end l e (λ (z : l.count ≡ 0). omega arith));
    }
  where
    last : (i : ℕ) → i < l.count → l.offset + size * l.count ≤ end → l.offset + size * i + size ≤ end
    last i h g = omega (arith, mul-le-mul_left size h)

pub lump_at_law : (size end i : ℕ) (l : Lump) → lump_fits size end l ≡ true → i < l.count → l.offset + size * i + size ≤ end
lump_at_law size end i l e h = (lump_fitting size end l e).record_at_law i h

-- the six lumps that a record of a file has, in a file of that length
pub record AllFit (end : ℕ) (r : FileRecord) : Type 0 where
  pub statements : lump_fits 8 end r.statements ≡ true
  pub globaldefs : lump_fits 8 end r.globaldefs ≡ true
  pub fielddefs : lump_fits 8 end r.fielddefs ≡ true
  pub functions : lump_fits 36 end r.functions ≡ true
  pub strings : lump_fits 1 end r.strings ≡ true
  pub globals : lump_fits 4 end r.globals ≡ true

pub all_fit : (r : FileRecord) → lumps_fit r ≡ true → AllFit r.length r
unfolding lumps_fit
all_fit r e =
    let e5 = and_parts _ _ e in
    let e4 = and_parts _ _ e5.0 in
    let e3 = and_parts _ _ e4.0 in
    let e2 = and_parts _ _ e3.0 in
    let e1 = and_parts _ _ e2.0 in
    record { statements = e1.0; globaldefs = e1.1; fielddefs = e2.1; functions = e3.1; strings = e4.1; globals = e5.1 }

-- ---- the record of a file

abbrev fields_of_lump : Lump → Lump
fields_of_lump l = record { offset = l.offset; count = l.count }

same_lump_law : (a b : Lump) → same_lump a b ≡ true → a ≡ b
same_lump_law a b e =
    let t = and_parts _ _ e in
    let offsets : a.offset ≡ b.offset = eqb-true _ _ t.0 in
    let counts : a.count ≡ b.count = eqb-true _ _ t.1 in
    let fields : fields_of_lump a ≡ fields_of_lump b = cc in
    fields

abbrev fields_of_file : FileRecord → FileRecord
fields_of_file r =
    record {
      length = r.length;
      statements = r.statements;
      globaldefs = r.globaldefs;
      fielddefs = r.fielddefs;
      functions = r.functions;
      strings = r.strings;
      globals = r.globals;
      entityfields = r.entityfields;
    }

pub same_file_law : (a b : FileRecord) → same_file a b ≡ true → a ≡ b
unfolding same_file
same_file_law a b e =
    let e7 = and_parts _ _ e in
    let e6 = and_parts _ _ e7.0 in
    let e5 = and_parts _ _ e6.0 in
    let e4 = and_parts _ _ e5.0 in
    let e3 = and_parts _ _ e4.0 in
    let e2 = and_parts _ _ e3.0 in
    let e1 = and_parts _ _ e2.0 in
    let lengths : a.length ≡ b.length = eqb-true _ _ e1.0 in
    let statements : a.statements ≡ b.statements = same_lump_law _ _ e1.1 in
    let globaldefs : a.globaldefs ≡ b.globaldefs = same_lump_law _ _ e2.1 in
    let fielddefs : a.fielddefs ≡ b.fielddefs = same_lump_law _ _ e3.1 in
    let functions : a.functions ≡ b.functions = same_lump_law _ _ e4.1 in
    let strings : a.strings ≡ b.strings = same_lump_law _ _ e5.1 in
    let globals : a.globals ≡ b.globals = same_lump_law _ _ e6.1 in
    let entities : a.entityfields ≡ b.entityfields = eqb-true _ _ e7.1 in
    let fields : fields_of_file a ≡ fields_of_file b = cc in
    fields

-- what it is for the cells per entity to fit
pub record EntitySize (r : FileRecord) : Type 0 where
  pub least : 105 ≤ r.entityfields
  pub most : r.entityfields < 2147483648

pub entity_size : (r : FileRecord) → entity_fits r ≡ true → EntitySize r
entity_size r e =
    let t = and_parts (leb 105 r.entityfields) _ e in
    record { least = leb-true _ _ t.0; most = leb-false _ _ (not-true _ t.1) }

-- what it is for so many entities to have room in the lent cells (document 02, R-3)
pub record Room (number size lent : ℕ) : Type 0 where
  pub number_most : number ≤ 600
  pub cells : number * size ≤ lent

pub entities_room : (number size lent : ℕ) → entities_fit number size lent ≡ true → Room number size lent
unfolding entities_fit
entities_room number size lent e =
    let t = and_parts (leb number 600) _ e in
    record { number_most = leb-true _ _ t.0; cells = leb-true _ _ t.1 }

-- what it is for a file to be as a state records, the first of 13's conditions
pub record Recorded (file : List ℕ) (r : FileRecord) (lent : ℕ) : Type 0 where
  pub same : r ≡ file_of file
  pub longest : length file ≤ 1048576
  pub lumps : AllFit (length file) r
  pub least : 64 ≤ r.globals.count
  pub most : r.globals.count ≤ 32768
  pub lends : r.globals.count ≤ lent
  pub size : EntitySize r

pub recorded : (file : List ℕ) (r : FileRecord) (lent : ℕ) → recorded_in least_cells file r lent ≡ true → Recorded file r lent
unfolding recorded_in file_of
recorded file r lent e =
    let e5 = and_parts _ _ e in
    let e4 = and_parts _ _ e5.0 in
    let e3 = and_parts _ _ e4.0 in
    let e2 = and_parts _ _ e3.0 in
    let e1 = and_parts _ _ e2.0 in
    let same = same_file_law _ _ e1.0 in
    let bytes : r.length ≡ length file = ap (λ (x : FileRecord). x.length) same in
    let lengths = and_parts (leb 60 r.length) (leb r.length 1048576) e1.1 in
    let counts = and_parts (leb least_cells r.globals.count) (leb r.globals.count 32768) e3.1 in
    record {
      same = same;
      longest = rw (← bytes) (leb-true _ _ lengths.1);
      lumps = rw (← bytes) (all_fit r e2.1);
      least = leb-true _ _ counts.0;
      most = leb-true _ _ counts.1;
      lends = leb-true _ _ e5.1;
      size = entity_size r e4.1;
    }

-- a file that is too short for a header is as no state records
pub short_file : (file : List ℕ) (r : FileRecord) (lent : ℕ) → length file < 60 → false ≡ recorded_in least_cells file r lent
unfolding recorded_in file_of
short_file file r lent h = by (same_file r (file_of file)) refl
  where
    by : (t : Bool)
        → same_file r (file_of file) ≡ t
        → false ≡ (t && length_fits r && lumps_fit r && cells_fit least_cells r && entity_fits r && leb r.globals.count lent)
    by true e =
        let size : r.length ≡ length file = ap (λ (x : FileRecord). x.length) (same_file_law _ _ e) in
        rw (lt-leb 60 r.length (omega arith))
    by false e = refl

pub count_statements : (r : FileRecord) (file : List ℕ) → length (contents_at r file).statements ≡ r.statements.count
unfolding contents_at
count_statements r file = length_records _ _ _ _

-- ---- the functions of a file's program are those of its lump

module _ (file : List ℕ) where
  pub function_of_law : (f : ℕ) → get_or (records_in (read_function file) 36 (file_of file).functions) f no_function ≡ function_of (program_of file) f
  unfolding program_with contents_at
  function_of_law f = refl

  pub count_functions : length (program_of file).functions ≡ (file_of file).functions.count
  unfolding program_with contents_at
  count_functions = length_records _ _ _ _

-- ---- what a number names

pub function_found : (value count f : ℕ) → Some f ≡ function_id value count → (f ≡ value) × (f < count)
unfolding function_id
function_found value count f e = numbers.found Some None (λ i j h. cc) (λ i h. numbers.no_equation (cc)) value count f (ltb value count) refl e

pub function_missing : (value count : ℕ) → None ≡ function_id value count → count ≤ value
unfolding function_id
function_missing value count e = numbers.missing Some None (λ i j h. cc) (λ i h. numbers.no_equation (cc)) value count (ltb value count) refl e

-- a string's number is told from none by the same test, at the length of the strings
pub string_found : (value length s : ℕ) → Some s ≡ function_id value length → (s ≡ value) × (s < length)
string_found value length s e = function_found value length s e

pub string_missing : (value length : ℕ) → None ≡ function_id value length → length ≤ value
string_missing value length e = function_missing value length e

-- ---- the fetch

-- where the first of some conditions holds, and no other refuses
holding : (b : Bool) (n : ℕ) (cs : Conditions) → judge ((b otherwise suc n) ∷ cs) ≡ 0 → (b ≡ true) × (judge cs ≡ 0)
unfolding judge
holding true n cs e = (refl, e)
holding false n cs e = absurd (omega arith)

-- what it is to fetch the statement st at the index k
pub record FetchedAt (statements : List Statement) (p : ℤ) (k : ℕ) (st : Statement) : Type 0 where
  pub position : p ≡ pos k
  pub there : k < length statements
  pub statement : statement_at statements p ≡ st
  pub opcode : st.opcode < 66
  pub conditions : judge (fetch_conditions statements p) ≡ 0

at_place : (n k : ℕ) (p : ℤ) → k ≡ place_of n p → k < n → p ≡ pos k
at_place n k (pos i) e h = ap pos (sym e)
at_place n k (negsuc i) e h = absurd (omega arith)

abbrev there : List Statement → ℤ → ℕ × Statement
there statements p = (place_of (length statements) p, statement_at statements p)

pub fetch_accepts : (statements : List Statement) (p : ℤ) (k : ℕ) (st : Statement) → found k st ≡ fetched statements p → FetchedAt statements p k st
unfolding fetched guard fetch_conditions
fetch_accepts statements p k st e = by (judge (fetch_conditions statements p)) refl e
  where
    by : (j : ℕ)
        → judge (fetch_conditions statements p) ≡ j
        → found k st ≡ decided j (there statements p)
        → FetchedAt statements p k st
    by zero c f =
        let pair : ◌≡◌ {A = ℕ × Statement} (k, st) (there statements p) = cc in
        let same : k ≡ place_of (length statements) p = ap (λ (x : ℕ × Statement). x.0) pair in
        let read : st ≡ statement_at statements p = ap (λ (x : ℕ × Statement). x.1) pair in
        let t = holding _ 13 _ c in
        let u = holding _ 6 _ t.1 in
        let h : k < length statements = rw same (ltb-true _ _ t.0) in
        record {
          position = at_place (length statements) k p same h;
          there = h;
          statement = sym read;
          opcode = rw read (ltb-true _ _ u.0);
          conditions = c;
        }
    by (suc j) c f = let z : ◌≡◌ {A = ℕ} 0 1 = cc in absurd (omega arith)

pub fetch_refuses : (statements : List Statement) (p : ℤ) (n : ℕ) → refused n ≡ fetched statements p → (n ≡ judge (fetch_conditions statements p)) × (0 < n)
unfolding fetched guard
fetch_refuses statements p n e = by (judge (fetch_conditions statements p)) e
  where
    by : (j : ℕ) → refused n ≡ decided j (there statements p) → (n ≡ j) × (0 < n)
    by zero f = let z : ◌≡◌ {A = ℕ} 0 1 = cc in absurd (omega arith)
    by (suc j) f = let h : n ≡ suc j = cc in (h, omega arith)

-- what the statement at a position does is what the fetched one does
pub does_fetched : (k : Contents) (p : ℤ) (i : ℕ) (st : Statement) (x : Entities) (cells : List ℕ) → found i st ≡ fetched k.statements p → execute k p st x cells ≡ does_at k p x cells
unfolding does_at
does_fetched k p i st x cells e =
    let f = fetch_accepts _ _ _ _ e in
    rw (f.conditions, f.statement)

refuses_it : (n : ℕ) (d : Does) → 0 < n → refuses n ≡ or_refused n d
refuses_it zero d h = absurd (omega arith)
refuses_it (suc n) d h = refl

pub does_refused : (k : Contents) (p : ℤ) (n : ℕ) (x : Entities) (cells : List ℕ) → refused n ≡ fetched k.statements p → refuses n ≡ does_at k p x cells
unfolding does_at
does_refused k p n x cells e =
    let f = fetch_refuses _ _ _ e in
    rw (← f.0) (refuses_it n _ f.1)
