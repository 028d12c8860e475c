-- `load_file::numbers::read_number` meets its contract. The loop's invariant: what is left to be read gives what all gives from the start. Assumes nothing.
use Rattle.std.proofs.Common.{◌≡◌, ◌+◌, ◌≤◌, length, drop}
use Rattle.load_file.specs.Numbers.{number_from}
use Rattle.load_file.proofs.numbers.read_number.Given as goal

abbrev pub invariant-loop-digit : goal.invariant-loop-digit
invariant-loop-digit l =
    record {
      place : l.next ≡ l.from + l.digit-index;
      within : l.next ≤ length l.line;
      left : number_from l.v l.next (drop l.next l.line) ≡ number_from 0 l.from (drop l.from l.line);
    }
