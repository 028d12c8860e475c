-- `writer::write_functions` meets its contract. The loop's invariant: what is left to be written is the functions in what is left of the part. Assumes nothing.
use Rattle.std.specs.Slice.Iter.{chunks_exact_rest, chunks_exact_size}
use Rattle.std.proofs.Common.{◌≡◌}
use Rattle.definition.specs.Written.{function_bytes, bytes_of}
use Rattle.functions.specs.Parts.{functions_in}
use Rattle.text.specs.Writing.{Left}
use Rattle.writer.proofs.write_functions.Given as goal

abbrev pub invariant-loop-function : goal.invariant-loop-function
invariant-loop-function l =
    record {
      size : chunks_exact_size l.function-iterator ≡ 36;
      left : Left (bytes_of function_bytes (functions_in l.functions)) (bytes_of function_bytes (functions_in (chunks_exact_rest l.function-iterator))) l.initial.out l.out;
    }
