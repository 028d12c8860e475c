-- WHAT AN UNPACKING LEAVES AND ANSWERS (document 02, R-12), in the numbers of a list of calls.
use Rattle.std.specs.Prelude.{ℕ, List}
use Rattle.definition.specs.Checks.{Checked}
use Rattle.definition.specs.Unpacked.{unpack}
use Rattle.progs.specs.declared.ExecutionContext.{ExecutionContext}
use Rattle.progs.specs.Contexts.{config}
use Rattle.unpacked.specs.Numbers.{unpack_outcome}
use Rattle.call_list.specs.declared.Replied.{Replied}
use Rattle.call_list.specs.Encoding.{answer_reply, answering}

-- the answer, with the context as it was, and the buffer
pub record AfterUnpacking : Type 0 where
  pub replied : Replied
  pub buffer : List ℕ

abbrev pub unpacking_of : Replied → List ℕ → AfterUnpacking
unpacking_of r buffer = record { replied = r; buffer = buffer }

abbrev pub unpack_replied : ExecutionContext → List ℕ → Checked (List ℕ) → AfterUnpacking
unpack_replied x buffer u = record { replied = answering x (answer_reply u); buffer = (unpack_outcome buffer u).buffer }

abbrev pub after_unpacking : List ℕ → List ℕ → ExecutionContext → List ℕ → List ℕ → List ℕ → AfterUnpacking
after_unpacking file buffer x cells saved entities = unpack_replied x buffer (unpack file buffer (config x cells saved entities))
