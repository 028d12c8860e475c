-- WHAT WRITING A PROGRAM FILE LEAVES AND ANSWERS (document 02, R-6), in the numbers of a list of calls: the detail is the length where it is accepted.
use Rattle.std.specs.Prelude.{ℕ, List}
use Rattle.definition.specs.Written.{WriteOutcome, write_file, write_outcome}
use Rattle.progs.specs.declared.ExecutionContext.{ExecutionContext}
use Rattle.progs.specs.Contexts.{config}
use Rattle.call_list.specs.declared.Replied.{Replied}
use Rattle.call_list.specs.Encoding.{value_reply, answering}

-- the answer, with the context as it was, and the output buffer
pub record AfterWriting : Type 0 where
  pub replied : Replied
  pub output : List ℕ

abbrev pub writing_of : Replied → List ℕ → AfterWriting
writing_of r output = record { replied = r; output = output }

abbrev pub written : ExecutionContext → WriteOutcome → AfterWriting
written x o = record { replied = answering x (value_reply o.answer); output = o.output }

abbrev pub after_writing : List ℕ → List ℕ → ExecutionContext → List ℕ → List ℕ → List ℕ → AfterWriting
after_writing file output x cells saved entities = written x (write_outcome output (write_file file output (config x cells saved entities)))
