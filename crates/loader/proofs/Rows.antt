-- The rows of records, by the parts of the file, and what the row "header" shows. Assumes nothing.
use Rattle.std.proofs.Common.{ℕ, zero, suc, ◌+◌, ◌≤◌, ◌<◌, ◌≡◌, refl, sym, ap, subst, List, ◌++◌, true, length, leb, leb-true}
use Rattle.definition.specs.declared.FileRecord.{FileRecord}
use Rattle.definition.specs.Checks.{Conditions, judge}
use Rattle.definition.specs.File.{records, read_definition, file_of, contents_at, lumps_fit}
use Rattle.definition.specs.Load.{each, function_conditions, statement_conditions, globaldef_conditions, fielddef_conditions, header_conditions, record_conditions, cell_conditions}
use Rattle.definition.specs.CheckLaws.{All}
use Rattle.definition.proofs.CheckLaws.{and_left, judge_passed}
use Rattle.functions.specs.Laws.{AllFit, all_fit, entity_size}
use Rattle.functions.specs.Parts.{part_of, records_of, statements_in, definitions_in, functions_in}
use Rattle.functions.specs.PartLaws.{part_functions, part_statements, part_globaldefs, part_fielddefs}
use Rattle.loader.specs.declared.records.Fielddef.{Fielddef}
use Rattle.loader.specs.Records.{fielddef, read_fielddef}

pub fit : (r : FileRecord) (n : ℕ) → (lumps_fit r ≡ true) × (r.length ≡ n) → AllFit n r
fit r n (e, h) = subst (λ (k : ℕ). AllFit k r) h (all_fit r e)

-- records under another name
renamed : {A B : Type 0} (conditions : B → Conditions) (name : A → B) (read : ℕ → A) (size n at : ℕ)
    → each conditions (records (λ (k : ℕ). name (read k)) size n at) ≡ each (λ (a : A). conditions (name a)) (records read size n at)
unfolding each records
renamed conditions name read size zero at = refl
renamed conditions name read size (suc n) at = ap (λ (cs : Conditions). conditions (name (read at)) ++ cs) (renamed conditions name read size n (at + size))

-- the row of each lump, by its part of the file
pub by_parts : (strings : ℕ) (r : FileRecord) (file : List ℕ) → lumps_fit r ≡ true → r.length ≡ length file
    → record_conditions strings (contents_at r file)
    ≡ (each (function_conditions strings) (functions_in (part_of 36 r.functions file))
    ++ each statement_conditions (statements_in (part_of 8 r.statements file))
    ++ each (globaldef_conditions strings) (definitions_in (part_of 8 r.globaldefs file))
    ++ each (λ field. fielddef_conditions strings field.definition) (records_of read_fielddef 8 (part_of 8 r.fielddefs file)))
unfolding record_conditions
by_parts strings r file e h =
    let all = fit r _ (e, h) in
    rw (renamed (λ (d : Fielddef). fielddef_conditions strings d.definition) fielddef (read_definition (part_of 8 r.fielddefs file)))
    (cc (part_functions r file all, part_statements r file all, part_globaldefs r file all, part_fielddefs r file all))

-- what the row "header" shows where it passes
pub record Passed (file : List ℕ) : Type 0 where
  pub header : 60 ≤ length file
  pub lumps : lumps_fit (file_of file) ≡ true

pub header_passed : (check : ℕ) (file : List ℕ) → 0 ≡ judge (header_conditions check file) → Passed file
unfolding header_conditions file_of
header_passed check file e =
    let all : All (header_conditions check file) = judge_passed (header_conditions check file) (sym e) in
    record { header = leb-true 60 (length file) (and_left (leb 60 (length file)) (leb (length file) 1048576) all.0); lumps = all.1.1.1.0 }

-- after 11 the cells per entity are below 2^31
pub size_below : (least : ℕ) (r : FileRecord) (lent store : ℕ) → 0 ≡ judge (cell_conditions least r lent store) → r.entityfields < 2147483648
unfolding cell_conditions
size_below least r lent store e = (entity_size r (judge_passed (cell_conditions least r lent store) (sym e)).1.0).most
