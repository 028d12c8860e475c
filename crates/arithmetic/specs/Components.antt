-- THE COMPONENTS OF AN OPERAND of a type.
use Rattle.std.specs.Prelude.{ℕ, List, [], ◌∷◌, get_or}
use Rattle.definition.specs.Statements.{component}

abbrev pub components : ℕ → ℕ → List ℕ → List ℕ
components t cell cells = get_or cells cell 0 ∷ get_or cells (component t cell 1) 0 ∷ get_or cells (component t cell 2) 0 ∷ []
