-- What an inductive invariant is: what every small step preserves.
use Prim.Native.Nat.{ℕ, ◌*◌}
use Rattle.std.specs.Prelude.{List, ℤ, length}
use Rattle.definition.specs.File.{contents_of}
use Rattle.definition.specs.Machine.{Config, count_of, with_cells, with_entities, advanced, entry_conditions, entered, leave_conditions, left, return_conditions, returned}
use Rattle.definition.specs.Load.{program_of}
use Rattle.definition.specs.Log.{Log, Kind, entry, leaving, other}
use Rattle.definition.specs.Trace.{log_after, StepProperty, StateProperty}
use Rattle.definition.specs.CheckLaws.{All}
use Rattle.definition.specs.StatementLaws.{Keeps}

-- a small step of which Step holds, and after which the invariant K does
abbrev pub Preserves : List ℕ → StateProperty → StepProperty → Kind → Config → Log → Config → Type 0
Preserves file K Step κ c l c' = Step κ c l c' × K c' (log_after file κ c l)

-- how many entity cells the entities have
abbrev pub room_in : List ℕ → Config → ℕ
room_in file c = c.state.entity_count * (contents_of file).entityfields

-- K is inductive: every kind of small step, from where K holds, has the property Step and preserves K
pub record Inductive (file : List ℕ) (K : StateProperty) (Step : StepProperty) : Type 0 where
  pub plain : (c : Config) (l : Log) (p : ℤ) (cells entities : List ℕ) → K c l → Keeps (length (contents_of file).globals) c.cells cells
      → Keeps (room_in file c) c.entities entities → Preserves file K Step other c l (advanced c p cells entities)
  pub writing : (c : Config) (l : Log) (cells : List ℕ) → K c l → Keeps (count_of c) c.cells cells → Preserves file K Step other c l (with_cells c cells)
  pub lending : (c : Config) (l : Log) (entities : List ℕ) → K c l → Preserves file K Step other c l (with_entities c entities)
  pub entering : (c : Config) (l : Log) (f : ℕ) (back : ℤ) → K c l → All (entry_conditions (program_of file) f c)
      → Preserves file K Step (entry f back) c l (entered (program_of file) f back c)
  pub returning : (c : Config) (l : Log) (a : ℕ) → K c l → All (return_conditions (program_of file) a c)
      → Preserves file K Step leaving c l (returned (program_of file) a c)
  pub leave_one : (c : Config) (l : Log) → K c l → All (leave_conditions (program_of file) c)
      → Preserves file K Step leaving c l (left (program_of file) c)
