-- `text::copy` meets its contract. The loop's invariant: the first i bytes are copied. Assumes nothing.
use Rattle.std.proofs.Common.{◌≡◌, ◌++◌, take, drop, length}
use Rattle.text.proofs.copy.Given as goal

abbrev pub invariant-loop-i : goal.invariant-loop-i
invariant-loop-i l = record { size : length l.part ≡ length l.initial.part; copied : l.part ≡ take l.i l.xs ++ drop l.i l.initial.part }
