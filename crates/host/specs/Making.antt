-- WHAT MAKING A LOAD FILE LEAVES AND ANSWERS (document 02, R-10), in numbers.
use Rattle.std.specs.Prelude.{ℕ, List, ℤ}
use Rattle.definition.specs.Written.{WriteOutcome, write_outcome}
use Rattle.load_files.specs.LoadFile.{make_file}
use Rattle.host.specs.declared.display.WriteReply.{WriteReply}
use Rattle.host.specs.Display.{write_reply}

-- the answer, and the output buffer
pub record AfterMaking : Type 0 where
  pub reply : WriteReply
  pub output : List ℕ

abbrev pub making_of : WriteReply → List ℕ → AfterMaking
making_of r output = record { reply = r; output = output }

abbrev pub made : WriteOutcome → AfterMaking
made o = record { reply = write_reply o.answer; output = o.output }

abbrev pub after_making : ℕ → ℤ → List ℕ → AfterMaking
after_making seed n output = made (write_outcome output (make_file seed n output))
