-- WHAT AN UNPACKING ANSWERS, and the buffer after it.
use Rattle.std.specs.Prelude.{List, ℕ, Result}
use Rattle.definition.specs.declared.refusal.Refusal.{Refusal}
use Rattle.definition.specs.Checks.{Checked, refused, accepted}
use Rattle.definition.specs.Refusals.{checked}
use Rattle.definition.specs.Answers.{Answer, answer_of}

-- what is answered, and the buffer after it
pub record Unpacking : Type 0 where
  pub answer : Answer
  pub buffer : List ℕ

abbrev pub unpacked_of : Result (Unit {0}) Refusal → List ℕ → Unpacking
unpacked_of r buffer = record { answer = answer_of (checked r); buffer = buffer }

abbrev buffer_of : List ℕ → Checked (List ℕ) → List ℕ
buffer_of buffer (refused n) = buffer
buffer_of buffer (accepted after) = after

-- a refusal leaves the buffer
abbrev pub unpack_outcome : List ℕ → Checked (List ℕ) → Unpacking
unpack_outcome buffer x = record { answer = answer_of x; buffer = buffer_of buffer x }
