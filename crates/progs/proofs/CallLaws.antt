-- The configuration after an entry, by what the code does to the context, the cells and the saved store.
use Rattle.std.proofs.Common.{◌≡◌, ℕ, List, drop, ℤ, pos}
use Rattle.std.proofs.Math.Seq.{paste}
use Rattle.definition.specs.declared.FunctionDef.{FunctionDef}
use Rattle.definition.specs.Machine.{Program, function_of, copied, arguments_of, entered}
use Rattle.progs.specs.declared.ExecutionContext.{ExecutionContext}
use Rattle.progs.specs.Contexts.{config, entered_context}

pub entered_config : (P : Program) (f : ℕ) (back : ℤ) (x : ExecutionContext) (d : FunctionDef) → d ≡ function_of P f
    → (cells saved entities : List ℕ) (y : ExecutionContext) (cells' saved' : List ℕ)
    → y ≡ entered_context x f (pos d.first) d.locals back
    → cells' ≡ copied (arguments_of d) cells
    → saved' ≡ paste saved x.saved (drop d.start cells) d.locals
    → config y cells' saved' entities ≡ entered P f back (config x cells saved entities)
unfolding entered
entered_config P f back x d e cells saved entities y cells' saved' k a b = rw (k, a, b, e)
