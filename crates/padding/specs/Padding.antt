-- THE PADDING PROGRAM. Document 02, R-7: "Installed ones are run once through a padding program, which alone still admits them".
use Rattle.std.specs.Prelude.{ℕ, List, [], ◌∷◌, ◌++◌, length, leb}
use Rattle.definition.specs.Checks.{Conditions, ◌otherwise◌, Checked, refused, accepted, guard}
use Rattle.definition.specs.File.{check_number, least_to_pad, most_cells, saved_store}
use Rattle.definition.specs.Load.{file_conditions}
use Rattle.definition.specs.Written.{padded_file}
use Rattle.text.specs.Text.{refused_line}

-- 01, of the show program: "a file of at most 65,536 bytes"
abbrev pub longest : ℕ
longest = 65536

-- "It reads and refuses as the show program does": "a longer input prints `refused,1`", then a load's conditions of a file, with 36 for the least number of
-- cells, 01's check number, as many cells lent as a file may have, and "entities none"; "over 65,536 bytes to write is 34"
unfoldable pub pad_conditions : List ℕ → Conditions
pad_conditions file =
    (leb (length file) longest otherwise 1)
    ∷ file_conditions least_to_pad check_number file 0 most_cells saved_store 0
    ++ ((leb (length (padded_file file)) longest otherwise 34) ∷ [])

-- the file's bytes and nothing else; 01: "A refused load prints the first two fields only"
abbrev pub printed : Checked (List ℕ) → List ℕ
printed (refused n) = refused_line n
printed (accepted bytes) = bytes

unfoldable pub pad_text : List ℕ → List ℕ
pad_text file = printed (guard (pad_conditions file) (padded_file file))
