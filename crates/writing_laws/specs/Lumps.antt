-- THE LUMPS OF A LENT FILE as a writer copies them: bytes as they stand, and functions one by one.
use Prim.Native.Nat.{ℕ, zero, suc, ◌+◌, ◌*◌, ◌/◌, ◌≤◌, ◌<◌}
use Rattle.std.proofs.Common.{add_assoc, sym, ◌∙◌, append-nil, append_assoc}
use Rattle.std.specs.Prelude.{◌≡◌, List, [], ◌∷◌, ◌++◌, length, replicate}
use Rattle.std.proofs.Math.Path.{refl, ap}
use native.Mathlib.Omega.{arith}
use Rattle.std.proofs.Math.ListN.{length-append, length-replicate}
use Rattle.std.proofs.lemmas.List.{replicate-append-replicate}
use Rattle.definition.specs.declared.FileRecord.{FileRecord}
use Rattle.definition.specs.File.{byte_at, u32_at, records, read_statement, read_definition, read_function, file_of, Contents, contents_at}
use Rattle.definition.proofs.RecordLaws.{length_records}
use Rattle.definition.specs.Written.{u16_bytes, u32_bytes, function_bytes, bytes_of, layout, layout_of, header_numbers, written, padded, image}
use Rattle.functions.specs.Laws.{AllFit}
use Rattle.functions.specs.Parts.{part_of, statements_in, definitions_in, functions_in, cells_in}
use Rattle.functions.specs.PartLaws.{Same, byte_local, u32_local, statement_local, definition_local, length_part, part_statements, part_globaldefs, part_fielddefs, part_functions, part_globals}
use Rattle.writing_laws.specs.Copied.{Bytes, statements_again, globaldefs_again, fielddefs_again, strings_again, globals_again}
use Rattle.writing_laws.specs.ReadBack.{length_bytes, functions}
use Rattle.writing_laws.specs.Written.{length_written, length_header}
use Rattle.writing_laws.specs.Loads.{eight_at, written_alike}

-- the layout of what a record of a file counts
abbrev pub laid_out : FileRecord → FileRecord
laid_out r =
    layout
    r.statements.count
    r.globaldefs.count
    r.fielddefs.count
    r.functions.count
    r.strings.count
    r.globals.count
    r.entityfields

-- with so many cells more
abbrev pub more_cells : ℕ → FileRecord → FileRecord
more_cells n r =
    record {
      length = r.length;
      statements = r.statements;
      globaldefs = r.globaldefs;
      fielddefs = r.fielddefs;
      functions = r.functions;
      strings = r.strings;
      globals = record { offset = r.globals.offset; count = r.globals.count + n };
      entityfields = r.entityfields;
    }

-- zero cells are written as zero bytes
zeros_written : (n : ℕ) → bytes_of u32_bytes (replicate n 0) ≡ replicate (4 * n) 0
unfolding bytes_of u32_bytes u16_bytes
zeros_written zero = refl
zeros_written (suc n) =
    let e : 4 * suc n ≡ 4 + 4 * n = omega arith in
    rw (e, zeros_written n, ← replicate-append-replicate {A = ℕ} 4 (4 * n) 0) refl

bytes_append : (xs ys : List ℕ) → bytes_of u32_bytes (xs ++ ys) ≡ bytes_of u32_bytes xs ++ bytes_of u32_bytes ys
unfolding bytes_of
bytes_append [] ys = refl
bytes_append (x ∷ xs) ys = rw (bytes_append xs ys) (simp append_assoc)

-- nothing is added to a file that has cells enough
pub padded_none : (k : Contents) → padded 0 k ≡ k
padded_none k = rw (append-nil k.globals) refl

-- the six lumps one behind the other
unfoldable pub lumps_of : FileRecord → List ℕ → List ℕ
lumps_of r file =
    part_of 8 r.statements file
    ++ (part_of 8 r.globaldefs file
    ++ (part_of 8 r.fielddefs file
    ++ (bytes_of function_bytes (functions_in (part_of 36 r.functions file)) ++ (part_of 1 r.strings file ++ part_of 4 r.globals file))))

-- those that are copied as they stand, and are written as numbers, are bytes
pub record LumpBytes (r : FileRecord) (file : List ℕ) : Type 0 where
  pub statements : Bytes (part_of 8 r.statements file)
  pub globaldefs : Bytes (part_of 8 r.globaldefs file)
  pub fielddefs : Bytes (part_of 8 r.fielddefs file)
  pub globals : Bytes (part_of 4 r.globals file)

-- the contents of a file with n zero cells more
module _ (check : ℕ) (r : FileRecord) (file : List ℕ) (n : ℕ) where
  abbrev contents : Contents
  contents = padded n (contents_at r file)

  abbrev laid : FileRecord
  laid = laid_out (more_cells n r)

  layout_counts : layout_of contents ≡ laid
  unfolding contents_at
  layout_counts =
      rw (
        length_records (read_statement file) 8 r.statements.count r.statements.offset,
        length_records (read_definition file) 8 r.globaldefs.count r.globaldefs.offset,
        length_records (read_definition file) 8 r.fielddefs.count r.fielddefs.offset,
        length_records (read_function file) 36 r.functions.count r.functions.offset,
        length_records (byte_at file) 1 r.strings.count r.strings.offset,
        length-append (contents_at r file).globals (replicate n 0),
        length_records (u32_at file) 4 r.globals.count r.globals.offset,
        length-replicate {A = ℕ} n 0,
      )
      refl

  pub length_laid_out : length (written check contents) ≡ laid.length
  length_laid_out = length_written check contents (eight_at r file) ∙ ap (λ (x : FileRecord). x.length) layout_counts

  abbrev header : List ℕ
  header = bytes_of u32_bytes (header_numbers check laid)

  -- the lumps, and behind the cells the zeros
  abbrev pub lumps : List ℕ
  lumps = lumps_of r file ++ replicate (4 * n) 0

  -- what is written of the file
  pub written_lumps : AllFit (length file) r → LumpBytes r file → written check contents ≡ header ++ lumps
  unfolding written lumps_of
  written_lumps fit b =
      rw (
        layout_counts,
        statements_again r file fit b.statements,
        globaldefs_again r file fit b.globaldefs,
        fielddefs_again r file fit b.fielddefs,
        ← part_functions r file fit,
        strings_again r file fit,
        bytes_append (contents_at r file).globals (replicate n 0),
        globals_again r file fit b.globals,
        zeros_written n,
      )
      (simp append_assoc)

  length_functions : AllFit (length file) r → length (bytes_of function_bytes (functions_in (part_of 36 r.functions file))) ≡ 36 * r.functions.count
  unfolding contents_at
  length_functions fit =
      rw (part_functions r file fit)
      (length_bytes functions (contents_at r file).functions (eight_at r file)
      ∙ ap (λ (n : ℕ). 36 * n) (length_records (read_function file) 36 r.functions.count r.functions.offset))

  -- and its length, whatever the bytes are
  pub length_lumps : AllFit (length file) r → length (header ++ lumps) ≡ laid.length
  unfolding lumps_of layout
  length_lumps fit =
      let h = length_header check laid in
      let s = length_part read_statement 8 statement_local (omega arith) file r.statements fit.statements in
      let g = length_part read_definition 8 definition_local (omega arith) file r.globaldefs fit.globaldefs in
      let d = length_part read_definition 8 definition_local (omega arith) file r.fielddefs fit.fielddefs in
      let u = length_functions fit in
      let t = length_part byte_at 1 byte_local (omega arith) file r.strings fit.strings in
      let c = length_part u32_at 4 u32_local (omega arith) file r.globals fit.globals in
      simp (length-append, length-replicate) (omega arith)

-- ---- files whose lumps have the same bytes, wherever these stand, are written alike

abbrev fields : Contents → Contents
fields k =
    record {
      statements = k.statements;
      globaldefs = k.globaldefs;
      fielddefs = k.fielddefs;
      functions = k.functions;
      strings = k.strings;
      globals = k.globals;
      entityfields = k.entityfields;
    }

-- two functions with the same bytes but for 12 to 15, the profile number
pub record SameFunction (f : List ℕ) (i : ℕ) (g : List ℕ) (j : ℕ) : Type 0 where
  pub front : Same f i g j 12
  pub back : Same f (i + 16) g (j + 16) 20

inner : (f : List ℕ) (i : ℕ) (g : List ℕ) (j n : ℕ) → Same f i g j n → (d m : ℕ) → d + m ≤ n → Same f (i + d) g (j + d) m
inner f i g j n s d m h = record { byte = λ k l. rw (add_assoc i d k, add_assoc j d k) (s.byte (d + k) (omega arith)) }

same_bytes : (f : List ℕ) (i : ℕ) (g : List ℕ) (j n : ℕ) → Same f i g j n → records (byte_at f) 1 n i ≡ records (byte_at g) 1 n j
unfolding records
same_bytes f i g j zero s = refl
same_bytes f i g j (suc n) s =
    let here : byte_at f i ≡ byte_at g j = byte_local f g i j (record { byte = λ k l. s.byte k (omega arith) }) in
    let rest = same_bytes f (i + 1) g (j + 1) n (inner f i g j (suc n) s 1 n (omega arith)) in
    cc

same_function : (f : List ℕ) (i : ℕ) (g : List ℕ) (j : ℕ) → SameFunction f i g j → read_function f i ≡ read_function g j
same_function f i g j s =
    let number : (d : ℕ) → d + 4 ≤ 12 → u32_at f (i + d) ≡ u32_at g (j + d) = λ d h. u32_local f g (i + d) (j + d) (inner f i g j 12 s.front d 4 h) in
    let further : (d : ℕ) → d + 4 ≤ 20 → u32_at f (i + 16 + d) ≡ u32_at g (j + 16 + d) =
    λ d h. u32_local f g (i + 16 + d) (j + 16 + d) (inner f (i + 16) g (j + 16) 20 s.back d 4 h) in
    let first : u32_at f i ≡ u32_at g j = u32_local f g i j (record { byte = λ k l. s.front.byte k (omega arith) }) in
    let start = number 4 (omega arith) in
    let locals = number 8 (omega arith) in
    let name : u32_at f (i + 16) ≡ u32_at g (j + 16) = u32_local f g (i + 16) (j + 16) (record { byte = λ k l. s.back.byte k (omega arith) }) in
    let source : u32_at f (i + 20) ≡ u32_at g (j + 20) = rw (add_assoc i 16 4, add_assoc j 16 4) at (further 4 (omega arith)) in
    let count : u32_at f (i + 24) ≡ u32_at g (j + 24) = rw (add_assoc i 16 8, add_assoc j 16 8) at (further 8 (omega arith)) in
    let sizes : records (byte_at f) 1 8 (i + 28) ≡ records (byte_at g) 1 8 (j + 28) =
    rw (add_assoc i 16 12, add_assoc j 16 12) at (same_bytes f (i + 16 + 12) g (j + 16 + 12) 8 (inner f (i + 16) g (j + 16) 20 s.back 12 8 (omega arith))) in
    cc

-- two lumps of functions of which each two have the same bytes but for the profile number
pub record SameFunctions (f g : List ℕ) : Type 0 where
  pub size : length f ≡ length g
  pub each : (k : ℕ) → k < length g / 36 → SameFunction f (36 * k) g (36 * k)

module _ (f g : List ℕ) (count : ℕ) (each : (k : ℕ) → k < count → SameFunction f (36 * k) g (36 * k)) where
  same_records : (n k : ℕ) → n + k ≤ count → records (read_function f) 36 n (36 * k) ≡ records (read_function g) 36 n (36 * k)
  unfolding records
  same_records zero k h = refl
  same_records (suc n) k h =
      let here = same_function f (36 * k) g (36 * k) (each k (omega arith)) in
      let e : 36 * k + 36 ≡ 36 * suc k = omega arith in
      let rest : records (read_function f) 36 n (36 * k + 36) ≡ records (read_function g) 36 n (36 * k + 36) = rw e (same_records n (suc k) (omega arith)) in
      cc

same_functions : (f g : List ℕ) → SameFunctions f g → functions_in f ≡ functions_in g
same_functions f g s = rw s.size (same_records f g (length g / 36) s.each (length g / 36) 0 (omega arith))

-- the lumps that two records have in two files: the same bytes, but for profile numbers
pub record SameLumps (r : FileRecord) (file : List ℕ) (r' : FileRecord) (file' : List ℕ) : Type 0 where
  pub statements : part_of 8 r.statements file ≡ part_of 8 r'.statements file'
  pub globaldefs : part_of 8 r.globaldefs file ≡ part_of 8 r'.globaldefs file'
  pub fielddefs : part_of 8 r.fielddefs file ≡ part_of 8 r'.fielddefs file'
  pub functions : SameFunctions (part_of 36 r.functions file) (part_of 36 r'.functions file')
  pub strings : part_of 1 r.strings file ≡ part_of 1 r'.strings file'
  pub globals : part_of 4 r.globals file ≡ part_of 4 r'.globals file'
  pub entityfields : r.entityfields ≡ r'.entityfields

entity_size : (r : FileRecord) (file : List ℕ) → (contents_at r file).entityfields ≡ r.entityfields
unfolding contents_at
entity_size r file = refl

pub same_lumps : (r r' : FileRecord) (file file' : List ℕ) → AllFit (length file) r → AllFit (length file') r' → SameLumps r file r' file'
    → contents_at r file ≡ contents_at r' file'
same_lumps r r' file file' fit fit' same =
    let k : Contents = contents_at r file in
    let k' : Contents = contents_at r' file' in
    let s : k.statements ≡ k'.statements = sym (part_statements r file fit) ∙ ap statements_in same.statements ∙ part_statements r' file' fit' in
    let g : k.globaldefs ≡ k'.globaldefs = sym (part_globaldefs r file fit) ∙ ap definitions_in same.globaldefs ∙ part_globaldefs r' file' fit' in
    let d : k.fielddefs ≡ k'.fielddefs = sym (part_fielddefs r file fit) ∙ ap definitions_in same.fielddefs ∙ part_fielddefs r' file' fit' in
    let u : k.functions ≡ k'.functions = sym (part_functions r file fit) ∙ same_functions _ _ same.functions ∙ part_functions r' file' fit' in
    let t : k.strings ≡ k'.strings = strings_again r file fit ∙ same.strings ∙ sym (strings_again r' file' fit') in
    let c : k.globals ≡ k'.globals = sym (part_globals r file fit) ∙ ap cells_in same.globals ∙ part_globals r' file' fit' in
    let e : k.entityfields ≡ k'.entityfields = entity_size r file ∙ same.entityfields ∙ sym (entity_size r' file') in
    let all : fields k ≡ fields k' = cc in
    all

-- "Two accepted files with the same contents apart from profile numbers and placement are written alike"
pub same_lumps_alike : (check : ℕ) (file file' : List ℕ) → AllFit (length file) (file_of file) → AllFit (length file') (file_of file') → SameLumps (file_of file) file (file_of file') file'
    → image check file ≡ image check file'
same_lumps_alike check file file' fit fit' same = written_alike check file file' (same_lumps (file_of file) (file_of file') file file' fit fit' same)
