-- UNPACKING STATEMENTS, document 02's R-12: once, into a lent buffer, from which the second engine runs (`with_unpacked`, and `run` on that program).
use Rattle.std.specs.Prelude.{ℕ, ◌*◌, ◌≡◌, List, [], ◌∷◌, ◌++◌, drop}
use Rattle.definition.specs.Checks.{Conditions, ◌otherwise◌, Checked, accepted, guard}
use Rattle.definition.specs.File.{file_of, contents_of, unpacked_size, numbers_of}
use Rattle.definition.specs.Machine.{Program, with_unpacked, Config}
use Rattle.definition.specs.Load.{program_of}
use Rattle.definition.specs.Operations.{sound}
use Rattle.definition.specs.Calls.{Call, enters, steps, runs, runs_unpacked, carries, abandons, reads, writes, writes_all, lends}

-- "refused 37, at unpacking .., after 13"
abbrev pub unpack_conditions : Program → List ℕ → Config → Conditions
unpack_conditions P buffer c = (sound P c otherwise 13) ∷ ((with_unpacked P buffer).room otherwise 37) ∷ []

-- the buffer after it: numbers past the last statement's keep what they had
unfoldable pub buffer_after : List ℕ → List ℕ → List ℕ
buffer_after file buffer = numbers_of (contents_of file).statements ++ drop (unpacked_size * (file_of file).statements.count) buffer

-- a buffer that is refused "stays untouched"
unfoldable pub unpack : List ℕ → List ℕ → Config → Checked (List ℕ)
unpack file buffer c = guard (unpack_conditions (program_of file) buffer c) (buffer_after file buffer)

-- "as long as neither the program bytes nor the unpacked buffer change after unpacking": what these bytes were unpacked into, in some state
pub record Unpacked (file buffer : List ℕ) : Type 0 where
  pub before : List ℕ
  pub state : Config
  pub gives : unpack file before state ≡ accepted buffer

-- "on that condition wherever the second runs"
abbrev pub Ready : List ℕ → Call → Type 0
Ready file (enters f) = Unit {0}
Ready file steps = Unit {0}
Ready file (runs target limit) = Unit {0}
Ready file (runs_unpacked buffer target limit) = Unpacked file buffer
Ready file carries = Unit {0}
Ready file (abandons target) = Unit {0}
Ready file (reads a) = Unit {0}
Ready file (writes a v) = Unit {0}
Ready file (writes_all numbers) = Unit {0}
Ready file (lends entities) = Unit {0}

abbrev pub AllReady : List ℕ → List Call → Type 0
AllReady file [] = Unit {0}
AllReady file (k ∷ ks) = Ready file k × AllReady file ks
