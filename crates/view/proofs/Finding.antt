-- What the readers answer, by what the code tests: i is the place of the number n among the records of a lump. Assumes nothing.
use Rattle.std.proofs.Common.{◌≡◌, sym, ap, ◌∙◌, ℕ, ◌+◌, ◌*◌, ◌/◌, ◌≤◌, ◌<◌, true, false, List, length, get_or, ℤ, None, arith, lt-ltb, le-ltb, zero-add}
use Rattle.definition.specs.declared.Definition.{Definition}
use Rattle.definition.specs.declared.FileRecord.{FileRecord}
use Rattle.definition.specs.declared.FunctionDef.{FunctionDef}
use Rattle.definition.specs.declared.Statement.{Statement}
use Rattle.definition.specs.declared.Lump.{Lump}
use Rattle.definition.specs.Checks.{Checked, accepted, refused}
use Rattle.definition.specs.File.{lump_fits, records_in, contents_at, read_statement, read_function, read_definition, no_function}
use Rattle.definition.specs.Statements.{place_of}
use Rattle.functions.specs.Answers.{fetched}
use Rattle.functions.specs.Parts.{part_of, records_of, statements_in, functions_in}
use Rattle.functions.specs.PartLaws.{part_records, count_part, length_part, statement_local, function_local, definition_local}
use Rattle.definition.proofs.RecordLaws.{length_records, get_d_records}
use Rattle.view.specs.Records.{record_at, statement_in, function_in, definition_found, definition_at, no_definition}

module _ {A B : Type 0} (found : A → B) (absent : B) (none : A) (read : ℕ → A) (size : ℕ) (l : Lump) (n : ℤ) (i : ℕ) (place : i ≡ place_of l.count n) where
  count : length (records_in read size l) ≡ l.count
  count = length_records _ _ _ _

  same_place : place_of (length (records_in read size l)) n ≡ i
  same_place = ap (λ (k : ℕ). place_of k n) count ∙ sym place

  record_absent : l.count ≤ i → absent ≡ record_at found absent none (records_in read size l) n
  record_absent h = rw (same_place, count, le-ltb i l.count h)

  record_there : (a : A)
      → i < l.count
      → a ≡ get_or (records_in read size l) i none
      → found a ≡ record_at found absent none (records_in read size l) n
  record_there a h e = rw (same_place, count, lt-ltb i l.count h, ← e)

module _ (file : List ℕ) (r : FileRecord) (n : ℤ) where
  pub statement_outside : lump_fits 8 (length file) r.statements ≡ false → refused 4 ≡ statement_in file r n
  unfolding statement_in
  statement_outside e = rw e

  pub statement_fetched : (f : Checked (ℕ × Statement))
      → lump_fits 8 (length file) r.statements ≡ true
      → (part : List ℕ)
      → part ≡ part_of 8 r.statements file
      → f ≡ fetched (statements_in part) n
      → f ≡ statement_in file r n
  unfolding statement_in contents_at
  statement_fetched f e part p h = rw e (h ∙ rw p (ap (λ (s : List Statement). fetched s n) (part_records read_statement 8 statement_local (omega arith) file r.statements e)))

  pub function_outside : lump_fits 36 (length file) r.functions ≡ false → refused 4 ≡ function_in file r n
  unfolding function_in
  function_outside e = rw e

  module _ (fits : lump_fits 36 (length file) r.functions ≡ true) (i : ℕ) (place : i ≡ place_of r.functions.count n) where
    pub function_absent : r.functions.count ≤ i → refused 20 ≡ function_in file r n
    unfolding function_in contents_at
    function_absent h = rw fits (record_absent accepted (refused 20) no_function (read_function file) 36 r.functions n i place h)

    pub function_there : (d : FunctionDef)
        → i < r.functions.count
        → (part : List ℕ)
        → part ≡ part_of 36 r.functions file
        → d ≡ get_or (functions_in part) i no_function
        → accepted d ≡ function_in file r n
    unfolding function_in contents_at
    function_there d h part p e =
        rw fits
        (record_there accepted (refused 20) no_function (read_function file) 36 r.functions n i place d h
        (e ∙ rw p (ap (λ (fs : List FunctionDef). get_or fs i no_function) (part_records read_function 36 function_local (omega arith) file r.functions fits))))

    -- the number of functions that the part has
    pub function_below : (part : List ℕ) → part ≡ part_of 36 r.functions file → i < r.functions.count → i < length part / 36
    function_below part p h = rw (p, count_part read_function 36 function_local (omega arith) file r.functions fits) h

module _ (file : List ℕ) (l : Lump) (n : ℤ) where
  pub definition_outside : lump_fits 8 (length file) l ≡ false → refused 4 ≡ definition_at file l n
  unfolding definition_at
  definition_outside e = rw e

  module _ (fits : lump_fits 8 (length file) l ≡ true) (i : ℕ) (place : i ≡ place_of l.count n) where
    pub definition_absent_law : l.count ≤ i → accepted None ≡ definition_at file l n
    unfolding definition_at
    definition_absent_law h = rw fits (record_absent definition_found (accepted None) no_definition (read_definition file) 8 l n i place h)

    pub definition_there : (d : Definition) → i < l.count → d ≡ read_definition (part_of 8 l file) (8 * i) → definition_found d ≡ definition_at file l n
    unfolding definition_at
    definition_there d h e =
        let part = part_of 8 l file in
        let size : i < length part / 8 = rw (count_part read_definition 8 definition_local (omega arith) file l fits) h in
        let read : read_definition part (8 * i) ≡ get_or (records_of read_definition 8 part) i no_definition =
        sym (get_d_records (read_definition part) 8 (length part / 8) 0 i no_definition size ∙ ap (read_definition part) (zero-add _)) in
        rw fits
        (record_there definition_found (accepted None) no_definition (read_definition file) 8 l n i place d h
        (e ∙ read ∙ ap (λ (ds : List Definition). get_or ds i no_definition) (part_records read_definition 8 definition_local (omega arith) file l fits)))

    -- the record ends within the part
    pub definition_ends : (part : List ℕ) → part ≡ part_of 8 l file → i < l.count → 8 * i + 8 ≤ length part
    definition_ends part p h = rw (p, length_part read_definition 8 definition_local (omega arith) file l fits) (omega arith)
