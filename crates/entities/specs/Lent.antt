-- THE ENTITIES THAT ARE LENT: so many, and their cells.
use Rattle.std.specs.Prelude.{ℕ, List}
use Rattle.definition.specs.Statements.{Entities}

abbrev pub entities_at : ℕ → List ℕ → Entities
entities_at number cells = record { count = number; cells = cells }
