-- ENTRY AND RETURN ON NUMBERS: what they do to cells and saved store, and what the context takes over.
use Rattle.std.specs.Prelude.{ℕ, zero, suc, ◌-◌, List, [], pos, drop, Result}
use Rattle.std.proofs.Math.Seq.{paste}
use Rattle.definition.specs.declared.FunctionDef.{FunctionDef}
use Rattle.definition.specs.declared.Settings.{Settings}
use Rattle.definition.specs.declared.refusal.Refusal.{Refusal}
use Rattle.definition.specs.Checks.{judge, Checked, refused, accepted}
use Rattle.definition.specs.Refusals.{checked}
use Rattle.definition.specs.Machine.{Program, function_of, copied, successive, arguments_of, entry_conditions, return_conditions}
use Rattle.definition.specs.Answers.{no_lump, no_settings}
use Rattle.progs.specs.declared.ExecutionContext.{ExecutionContext}
use Rattle.progs.specs.declared.calls.Entry.{Entry}
use Rattle.progs.specs.declared.calls.Leaving.{Leaving}
use Rattle.progs.specs.Contexts.{bare}

-- a context of which only the settings, the function, the depth, the saved count and the file's count of cells are looked at
abbrev pub numbered_under : Settings → ℕ → ℕ → ℕ → ℕ → ExecutionContext
numbered_under s f depth held count =
    record {
      file =
          record {
            length = 0;
            statements = no_lump;
            globaldefs = no_lump;
            fielddefs = no_lump;
            functions = no_lump;
            strings = no_lump;
            globals = record { offset = 0; count = count };
            entityfields = 0;
          };
      settings = s;
      pc = pos 0;
      current_function = f;
      depth = depth;
      saved = held;
      entity_count = 0;
      frames = [];
    }

-- an entry looks at no function, and a leaving at no settings
abbrev pub numbered : Settings → ℕ → ℕ → ℕ → ExecutionContext
numbered s depth held count = numbered_under s 0 depth held count

abbrev pub numbered_in : ℕ → ℕ → ℕ → ℕ → ExecutionContext
numbered_in f depth held count = numbered_under no_settings f depth held count

pub record Entering : Type 0 where
  pub entry : Checked Entry
  pub cells : List ℕ
  pub saved : List ℕ

abbrev pub entry_of : Result Entry Refusal → List ℕ → List ℕ → Entering
entry_of r cells saved = record { entry = checked r; cells = cells; saved = saved }

-- where no condition refuses, the local range is saved and the arguments are copied
abbrev pub entering_as : ℕ → FunctionDef → ℕ → List ℕ → List ℕ → Entering
entering_as zero d held cells saved =
    record {
      entry = accepted (record { first = pos d.first; locals = d.locals });
      cells = copied (arguments_of d) cells;
      saved = paste saved held (drop d.start cells) d.locals;
    }
entering_as (suc n) d held cells saved = record { entry = refused (suc n); cells = cells; saved = saved }

unfoldable pub entering : Program → ℕ → ExecutionContext → List ℕ → List ℕ → Entering
entering P f x cells saved = entering_as (judge (entry_conditions P f (bare x))) (function_of P f) x.saved cells saved

pub record Returning : Type 0 where
  pub leaving : Checked Leaving
  pub cells : List ℕ

abbrev pub leaving_of : Result Leaving Refusal → List ℕ → Returning
leaving_of r cells = record { leaving = checked r; cells = cells }

-- where no condition refuses, the three cells are copied and the local range is restored
abbrev pub returning_as : ℕ → FunctionDef → ℕ → ℕ → List ℕ → List ℕ → Returning
returning_as zero d a held cells saved =
    record {
      leaving = accepted (record { locals = d.locals });
      cells = paste (copied (successive 3 a 1) cells) d.start (drop (held - d.locals) saved) d.locals;
    }
returning_as (suc n) d a held cells saved = record { leaving = refused (suc n); cells = cells }

unfoldable pub returning : Program → ℕ → ExecutionContext → List ℕ → List ℕ → Returning
returning P a x cells saved = returning_as (judge (return_conditions P a (bare x))) (function_of P x.current_function) a x.saved cells saved
