use Rattle.std.proofs.Common.{◌≡◌, length}
use Rattle.definition.specs.CheckLaws.{All}
use Rattle.definition.specs.Operations.{pair_conditions, pairs_written}
use Rattle.pairs.proofs.write_pairs.Given as goal

abbrev pub invariant-loop-pair : goal.invariant-loop-pair
invariant-loop-pair l =
    record {
      size : l.pair-iterator.size ≡ 2;
      cells : length l.cells ≡ length l.initial.cells;
      good : All (pair_conditions (length l.initial.cells) l.pair-iterator.rest.now);
      rest : pairs_written l.pair-iterator.rest.now l.cells ≡ pairs_written l.numbers l.initial.cells;
    }
