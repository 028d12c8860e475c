-- WHAT THE FUNCTIONS OF THIS CRATE ANSWER, in terms of the definition.
use Rattle.std.specs.Prelude.{ℕ, List, Option, Some, None, cond, length, get_or, ltb, ℤ, ◌≡◌, ◌<◌}
use Rattle.definition.specs.declared.Statement.{Statement}
use Rattle.definition.specs.Checks.{Checked, accepted, guard}
use Rattle.definition.specs.Statements.{fetch_conditions, no_statement, statement_at, place_of}

-- what a number names among so many: a function, by the test of refusal 20, or a string, by the test of refusal 6
unfoldable pub function_id : ℕ → ℕ → Option ℕ
function_id value count = cond (ltb value count) (Some value) None

-- the statement at an index
abbrev pub found : ℕ → Statement → Checked (ℕ × Statement)
found k st = accepted (k, st)

-- the index of the statement at a position, and the statement, where the conditions of the fetch hold
unfoldable pub fetched : List Statement → ℤ → Checked (ℕ × Statement)
fetched statements p = guard (fetch_conditions statements p) (place_of (length statements) p, statement_at statements p)

-- that what gives a statement for an index gives those of a list, which are so many
pub record Reads (gives : ℕ → Statement → Type 0) (count : ℕ) (statements : List Statement) : Type 0 where
  pub many : length statements ≡ count
  pub each : (k : ℕ) (st : Statement) → k < count → gives k st → get_or statements k no_statement ≡ st
