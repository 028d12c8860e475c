-- `writer::write_header` meets its contract. The loop's invariant: what is left to be written is the numbers from one on. Assumes nothing.
use Rattle.std.proofs.Common.{drop}
use Rattle.definition.specs.Written.{u32_bytes, bytes_of}
use Rattle.text.specs.Writing.{Left}
use Rattle.writer.proofs.write_header.Given as goal

abbrev pub invariant-loop-number : goal.invariant-loop-number
invariant-loop-number l =
    Left (bytes_of u32_bytes l.number-items) (bytes_of u32_bytes (drop l.number-index l.number-items)) l.initial.out l.out
