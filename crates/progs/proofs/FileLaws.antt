-- What a context that records the file's header says of the program.
use Rattle.std.proofs.Common.{◌≡◌, ℕ, ◌/◌, ◌≤◌, ◌<◌, List, length, get_or, sym, ◌∙◌, ap, le-ltb}
use lib.ListN.{get_or-eq_default}
use Rattle.definition.specs.declared.FileRecord.{FileRecord}
use Rattle.definition.specs.declared.FunctionDef.{FunctionDef}
use Rattle.definition.specs.Checks.{judge}
use Rattle.definition.specs.File.{contents_at, no_function, read_function}
use Rattle.definition.specs.Load.{program_with, program_of}
use Rattle.definition.specs.Machine.{Config, function_of, entry_conditions}
use Rattle.definition.proofs.RecordLaws.{length_records}
use Rattle.functions.specs.Laws.{count_functions}
use Rattle.functions.specs.Parts.{part_of, functions_in}
use Rattle.functions.specs.PartLaws.{part_functions}
use Rattle.progs.specs.Contexts.{Loaded}

module _ (file : List ℕ) (r : FileRecord) (h : Loaded file r) where
  pub function_count : length (program_of file).functions ≡ r.functions.count
  function_count = rw h.same (count_functions file)

  pub function_there : (f : ℕ) → f < r.functions.count → f < length (program_of file).functions
  function_there f k = rw function_count k

  pub function_absent : (f : ℕ) → r.functions.count ≤ f → length (program_of file).functions ≤ f
  function_absent f k = rw function_count k

  pub no_function_there : (f : ℕ) → r.functions.count ≤ f → no_function ≡ function_of (program_of file) f
  no_function_there f k = sym (get_or-eq_default (program_of file).functions no_function {n = f} (function_absent f k))

  pub entry_20 : (f : ℕ) (c : Config) → r.functions.count ≤ f → 20 ≡ judge (entry_conditions (program_of file) f c)
  unfolding entry_conditions judge
  entry_20 f c k = rw (le-ltb f (length (program_of file).functions) (function_absent f k))

  -- the part that has the functions
  module _ (part : List ℕ) (is : part ≡ part_of 36 r.functions file) where
    functions_here : functions_in part ≡ (program_of file).functions
    unfolding program_with
    functions_here = rw is (part_functions r file h.lumps ∙ ap (λ (q : FileRecord). (contents_at q file).functions) h.same)

    pub functions_count : length part / 36 ≡ r.functions.count
    functions_count = sym (length_records (read_function part) 36 (length part / 36) 0) ∙ ap (λ (fs : List FunctionDef). length fs) functions_here ∙ function_count

    pub function_read : (f : ℕ) (d : FunctionDef) → d ≡ get_or (functions_in part) f no_function → d ≡ function_of (program_of file) f
    function_read f d e = e ∙ ap (λ (fs : List FunctionDef). get_or fs f no_function) functions_here
