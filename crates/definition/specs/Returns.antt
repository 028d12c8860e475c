-- DEMAND 3, stated: each return restores what its entry found. Beside the machine goes a log, which has a note of each function entered and not yet left
-- (Log); at each leaving the machine is compared with the newest note.
use Rattle.std.specs.Prelude.{ℕ, ◌+◌, ◌≤◌, ◌≡◌, List, [], ◌∷◌, ℤ, length}
use Rattle.definition.specs.declared.Settings.{Settings}
use Rattle.definition.specs.Checks.{accepted}
use Rattle.definition.specs.Machine.{Config}
use Rattle.definition.specs.Load.{load}
use Rattle.definition.specs.Calls.{Call}
use Rattle.definition.specs.Unpacked.{AllReady}
use Rattle.definition.specs.Log.{Note, Log, function_in, local_cells, Kind, entry, leaving, other}
use Rattle.definition.specs.Trace.{StepProperty, log_after, Always}

-- the sum of the local counts of the functions that have a note
unfoldable pub locals_noted : List ℕ → Log → ℕ
locals_noted file [] = 0
locals_noted file (n ∷ l) = (function_in file n.entered).locals + locals_noted file l

-- the machine's two depths are those of the log: "the call depth is the number of functions entered and not yet left, at most 31, and the saved cells
-- number the sum of their local counts, at most 2,048"; R-11: "The bounds promised on depth and saved cells are those of the settings" that the load was
-- given
pub record DepthsMatch (s : Settings) (file : List ℕ) (c : Config) (l : Log) : Type 0 where
  pub depth_is : c.state.depth ≡ length l
  pub depth_most : c.state.depth ≤ s.depth
  pub saved_is : c.state.saved ≡ locals_noted file l
  pub saved_most : c.state.saved ≤ s.saved

-- c', in which the function `left` has just been left, has what the note says was there at the entry: "position, current function and local cells now
-- equal the note's"; and the note is of that function
pub record Restored (file : List ℕ) (left : ℕ) (n : Note) (c' : Config) : Type 0 where
  pub same_function : n.entered ≡ left
  pub position : c'.state.pc ≡ n.position
  pub current : c'.state.function ≡ n.current
  pub cells : local_cells file left c'.cells ≡ n.cells

-- of a small step that is a leaving: there is a newest note, and what it says is restored
abbrev pub LeavingRestores : List ℕ → StepProperty
LeavingRestores file (entry f p) c l c' = Unit {0}
LeavingRestores file leaving c [] c' = ⊥
LeavingRestores file leaving c (n ∷ l) c' = Restored file c.state.function n c'
LeavingRestores file other c l c' = Unit {0}

-- what demand 3 asks of every small step
pub record StepCorrect (s : Settings) (file : List ℕ) (k : Kind) (c : Config) (l : Log) (c' : Config) : Type 0 where
  pub restores : LeavingRestores file k c l c'
  pub depths : DepthsMatch s file c' (log_after file k c l)

-- for every file, every accepted load of it under any settings and with any number of entities, and every list of calls after that, from an empty log:
-- every small step is correct, and between the calls the depths match. R-12: "Every guarantee about returns is then stated for both, and for lists that mix them, on that condition wherever the second runs"
unfoldable pub Demand3 : Type 0
Demand3 =
    (s : Settings) (file : List ℕ) (n : ℤ) (cells saved entities : List ℕ) (c : Config)
    → load s file n cells saved entities ≡ accepted c
    → (calls : List Call)
    → AllReady file calls
    → Always file (StepCorrect s file) (DepthsMatch s file) c [] calls
