-- EXECUTION OF A FETCHED STATEMENT by the parts of the file that the code takes, and what it answers.
use Rattle.std.specs.Prelude.{ℕ, ◌*◌, ◌≤◌, ◌<◌, ◌≡◌, ℤ, pos, ◌+ℤ◌, length, Bool, true, false, Result, Ok, Err}
use Rattle.std.proofs.Common.{◌∙◌}
use Rattle.std.proofs.Math.Path.{ap}
use mathlib.Core.List.{List}
use Rattle.definition.specs.declared.refusal.Refusal.{Refusal}
use Rattle.definition.specs.declared.Statement.{Statement}
use Rattle.definition.specs.declared.Definition.{Definition}
use Rattle.definition.specs.declared.FileRecord.{FileRecord}
use Rattle.definition.specs.Checks.{Checked, accepted, refused}
use Rattle.definition.specs.Refusals.{number, checked}
use Rattle.definition.specs.File.{contents_at, u32_at}
use Rattle.definition.proofs.RecordLaws.{length_records}
use Rattle.functions.specs.Laws.{AllFit}
use Rattle.functions.specs.Parts.{part_of, functions_in}
use Rattle.functions.specs.PartLaws.{part_globaldefs, part_fielddefs, part_functions, part_strings}
use Rattle.typed.specs.declared.Operands.{Operands}
use Rattle.typed.specs.Typing.{typing}
use Rattle.definition.specs.declared.Handover.TheVariants.{Builtin}
use Rattle.definition.specs.Cells.{cell_of, Typing, typing_of, fields_of}
use Rattle.definition.specs.Statements.{Entities, Does, next, puts, calls, returns, refuses, hands_over, effect_does, rounding_effect, Tables, tables_of, execute_in, execute}
use Rattle.floats.specs.Rounding.{rounding_op}
use Rattle.execution.specs.declared.Callee.{Callee}
use Rattle.execution.specs.declared.Callee.TheVariants as callee
use Rattle.execution.specs.declared.Executed.{Executed}
use Rattle.execution.specs.declared.Executed.TheVariants.{Next, Calls, Returns, HandedOver}

-- what execution asks of a file, of what a state records of it, and of the lent cells
pub record Usable (end : ℕ) (r : FileRecord) (lent : ℕ) : Type 0 where
  pub lumps : AllFit end r
  pub most : r.globals.count ≤ 32768
  pub lends : r.globals.count ≤ lent

-- and of the lent entity cells
pub record UsableFields (r : FileRecord) (number lent : ℕ) : Type 0 where
  pub size_least : 105 ≤ r.entityfields
  pub size_most : r.entityfields < 2147483648
  pub number_most : number ≤ 600
  pub lends_fields : number * r.entityfields ≤ lent

abbrev pub statement : ℕ → ℕ → ℕ → ℕ → Statement
statement opcode arg1 arg2 arg3 = record { opcode = opcode; arg1 = arg1; arg2 = arg2; arg3 = arg3 }

-- the cells that the operands of a statement name
abbrev pub operands_of : Statement → Operands
operands_of s = record { a = cell_of s.arg1; b = cell_of s.arg2; c = cell_of s.arg3 }

-- ---- what execution looks up, on the parts of a file: the functions, the global definitions, the field definitions, the strings

abbrev pub tables_in : List ℕ → List ℕ → ℕ → List ℕ → ℕ → List ℕ → Tables
tables_in functions defs count fields size strings =
    record { functions = functions_in functions; globals = typing defs count; fields = typing fields size; strings = strings }

module _ (r : FileRecord) (file : List ℕ) (fit : AllFit (length file) r) where
  pub typing_here : typing (part_of 8 r.globaldefs file) r.globals.count ≡ typing_of (contents_at r file)
  unfolding contents_at
  typing_here =
      let definitions = part_globaldefs r file fit in
      let count = length_records (u32_at file) 4 r.globals.count r.globals.offset in
      cc

  pub fields_here : typing (part_of 8 r.fielddefs file) r.entityfields ≡ fields_of (contents_at r file)
  unfolding contents_at
  fields_here = ap (λ (ds : List Definition). record { definitions = ds; count = r.entityfields }) (part_fielddefs r file fit)

  tables_here : tables_in (part_of 36 r.functions file) (part_of 8 r.globaldefs file) r.globals.count (part_of 8 r.fielddefs file) r.entityfields (part_of 1 r.strings file)
      ≡ tables_of (contents_at r file)
  tables_here = rw (part_functions r file fit, typing_here, fields_here, part_strings r file fit)

-- ---- what it answers

abbrev pub done : Executed → List ℕ → Does
done (Next p) cells = next p cells
done (Calls f) cells = calls f
done (Returns a) cells = returns a
done (HandedOver h) cells = hands_over h

abbrev pub does_of : Result Executed Refusal → List ℕ → Does
does_of (Ok x) cells = done x cells
does_of (Err r) cells = refuses (number r)

-- what a Call does, by what it calls
abbrev pub called_does : Callee → Typing → ℤ → List ℕ → Does
called_does (callee.Function f) g p cells = calls f
called_does (callee.Rounding n) g p cells = effect_does p (rounding_effect (rounding_op n) g cells)
called_does (callee.Host n) g p cells = hands_over (Builtin n)

abbrev pub callee_does : Result Callee Refusal → Typing → ℤ → List ℕ → Does
callee_does (Ok c) g p cells = called_does c g p cells
callee_does (Err r) g p cells = refuses (number r)

abbrev pub is_hosts : Result Callee Refusal → Bool
is_hosts (Ok (callee.Function f)) = false
is_hosts (Ok (callee.Rounding n)) = false
is_hosts (Ok (callee.Host n)) = true
is_hosts (Err r) = false

-- what a statement answers, with the cells and the entity cells after it: only one that completes changes either
pub record Execution : Type 0 where
  pub answer : Checked Executed
  pub cells : List ℕ
  pub entities : List ℕ

abbrev pub answering : Checked Executed → List ℕ → List ℕ → Execution
answering answer cells entities = record { answer = answer; cells = cells; entities = entities }

unfoldable pub executed : Result Executed Refusal → List ℕ → List ℕ → Execution
executed r cells entities = answering (checked r) cells entities

unfoldable pub execution : Does → List ℕ → List ℕ → Execution
execution (next p cells') cells entities = answering (accepted (Next p)) cells' entities
execution (puts p entities') cells entities = answering (accepted (Next p)) cells entities'
execution (calls f) cells entities = answering (accepted (Calls f)) cells entities
execution (returns a) cells entities = answering (accepted (Returns a)) cells entities
execution (refuses n) cells entities = answering (refused n) cells entities
execution (hands_over h) cells entities = answering (accepted (HandedOver h)) cells entities

-- what was found on the parts of a file holds of its contents
module _ (r : FileRecord) (file : List ℕ) (fit : AllFit (length file) r) (functions defs fields strings : List ℕ) (f : functions ≡ part_of 36 r.functions file) (d : defs ≡ part_of 8 r.globaldefs file) (h : fields ≡ part_of 8 r.fielddefs file) (t : strings ≡ part_of 1 r.strings file) (p : ℤ) (st : Statement) (e : Entities) (cells : List ℕ) where
  abbrev tables : Tables
  tables = tables_in functions defs r.globals.count fields r.entityfields strings

  pub on_parts : execute_in tables p st e cells ≡ execute (contents_at r file) p st e cells
  unfolding execute
  on_parts = rw (f, d, h, t) (ap (λ (k : Tables). execute_in k p st e cells) (tables_here r file fit))

  pub executed_here : (x : Execution) → x ≡ execution (execute_in tables p st e cells) cells e.cells
      → x ≡ execution (execute (contents_at r file) p st e cells) cells e.cells
  executed_here x q = q ∙ ap (λ (d : Does). execution d cells e.cells) on_parts

-- what a statement that writes answers, at the position p
abbrev pub completed_as : ℤ → Result Unit Refusal → Result Executed Refusal
completed_as p (Ok u) = Ok (Next (p +ℤ pos 1))
completed_as p (Err r) = Err r
