-- THE SHOW PROGRAM. Document 01: "The show program reads a file of at most 65,536 bytes from standard input, enters function 1, runs to depth 0 with
-- limit 99,999, and prints one line".
use Rattle.std.specs.Prelude.{ℕ, List, cond, pos, length, get_or, leb}
use Rattle.definition.specs.declared.RunAnswer.{RunAnswer}
use Rattle.definition.specs.declared.RunAnswer.TheVariants.{Refused}
use Rattle.definition.specs.File.{standard}
use Rattle.definition.specs.Checks.{Checked, refused, accepted}
use Rattle.definition.specs.Machine.{Program, State, Config, Ran}
use Rattle.definition.specs.Load.{load, program_of}
use Rattle.definition.specs.Operations.{host_enter, run}
use Rattle.text.specs.Text.{show_line, refused_line}
use Rattle.text.specs.Output.{Output, at_front}

-- "A refused entry prints the whole line, statements 0"
abbrev pub after_entry : Program → Config → Checked Config → Ran
after_entry P c (refused n) = record { answer = Refused n; count = 0; config = c }
after_entry P c (accepted c') = run P (pos 0) (pos 99999) c'

unfoldable pub entered_and_run : Program → Config → Ran
entered_and_run P c = after_entry P c (host_enter P (pos 1) c)

abbrev pub state_line : RunAnswer → ℕ → State → List ℕ → List ℕ
state_line answer count s cells =
    show_line answer count s.pc s.function s.depth s.saved (get_or cells 1 0) (get_or cells 2 0) (get_or cells 3 0)

-- a line, and the three lent stores after it
pub record Shown : Type 0 where
  pub text : List ℕ
  pub cells : List ℕ
  pub saved : List ℕ
  pub entities : List ℕ

abbrev pub of_run : Ran → Shown
of_run r =
    record {
      text = state_line r.answer r.count r.config.state r.config.cells;
      cells = r.config.cells;
      saved = r.config.saved;
      entities = r.config.entities;
    }

-- "A refused load prints the first two fields only"
abbrev pub of_refusal : ℕ → List ℕ → List ℕ → List ℕ → Shown
of_refusal n cells saved entities = record { text = refused_line n; cells = cells; saved = saved; entities = entities }

abbrev pub after_load : Program → List ℕ → List ℕ → List ℕ → Checked Config → Shown
after_load P cells saved entities (refused n) = of_refusal n cells saved entities
after_load P cells saved entities (accepted c) = of_run (entered_and_run P c)

-- "a longer input prints `refused,1`"; "and entities none"; at 01's settings
unfoldable pub shown : List ℕ → List ℕ → List ℕ → List ℕ → Shown
shown file cells saved entities =
    cond (leb (length file) 65536)
    (after_load (program_of file) cells saved entities (load standard file (pos 0) cells saved entities))
    (of_refusal 1 cells saved entities)

-- ---- in a lent buffer

pub record Printed : Type 0 where
  pub line : Output
  pub cells : List ℕ
  pub saved : List ℕ
  pub entities : List ℕ

abbrev pub printed : Output → List ℕ → List ℕ → List ℕ → Printed
printed line cells saved entities = record { line = line; cells = cells; saved = saved; entities = entities }

-- the line at the front of a buffer
abbrev pub at_front_of : List ℕ → Shown → Printed
at_front_of line s = printed (at_front s.text line) s.cells s.saved s.entities
