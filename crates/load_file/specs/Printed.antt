-- WHAT THE LOAD FILE PROGRAM PRINTS: the file, or the line of refusal 35, as the show program has it.
use Rattle.std.specs.Prelude.{ℕ, List, not, cond, ◌&&◌, eqb, pos}
use Rattle.definition.specs.File.{between}
use Rattle.definition.specs.Written.{WriteOutcome, write_outcome}
use Rattle.text.specs.Text.{refused_line}
use Rattle.load_files.specs.LoadFile.{most_statements, bytes_for, make_file}
use Rattle.load_file.specs.declared.numbers.Numbers.{Numbers}
use Rattle.load_file.specs.Numbers.{numbers_of}

unfoldable pub printed_for : Numbers → List ℕ
printed_for a = cond (not (eqb a.seed 0) && between 1 most_statements a.n) (bytes_for a.seed a.n) (refused_line 35)

abbrev pub printed : List ℕ → List ℕ
printed line = printed_for (numbers_of line)

-- what is answered for the numbers of a line, and the output buffer after it
abbrev pub made_for : Numbers → List ℕ → WriteOutcome
made_for a output = write_outcome output (make_file a.seed (pos a.n) output)
