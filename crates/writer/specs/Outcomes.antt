-- WHAT A WRITER LEAVES, as the definition's outcome.
use Rattle.std.specs.Prelude.{ℕ, List, length}
use Rattle.definition.specs.Checks.{guard}
use Rattle.definition.specs.Written.{room_conditions, placed, WriteOutcome, write_outcome}

-- bytes at the front of an output buffer, or 34
unfoldable pub writing : List ℕ → List ℕ → WriteOutcome
writing bytes output = write_outcome output (guard (room_conditions bytes (length output)) (placed bytes output))
