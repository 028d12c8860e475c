-- A law of writing program files, beside the definition.
use Rattle.std.specs.Prelude.{ℕ, ◌≡◌, List, ◌∷◌, length}
use Rattle.definition.specs.Checks.{◌otherwise◌, guard}
use Rattle.definition.specs.Machine.{Config}
use Rattle.definition.specs.Load.{program_of}
use Rattle.definition.specs.Operations.{sound}
use Rattle.definition.specs.Written.{image, room_conditions, placed, write_conditions, write_file}

-- R-6: "The writer works from the file's own cells and not from the running ones": any two states of the file that hold one check number (R-11), with any
-- cells, write the same
pub written_from_file : (file output : List ℕ) (c c' : Config) → c.state.settings.check_number ≡ c'.state.settings.check_number
    → sound (program_of file) c ≡ sound (program_of file) c' → write_file file output c ≡ write_file file output c'
unfolding write_file write_conditions
written_from_file file output c c' held e = λ i.
    guard ((e i otherwise 13) ∷ room_conditions (image (held i) file) (length output)) (placed (image (held i) file) output)
