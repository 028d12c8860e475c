use Rattle.std.proofs.Common.{◌≡◌}
use Rattle.definition.specs.Checks.{judge}
use Rattle.definition.specs.Operations.{pair_conditions}
use Rattle.pairs.proofs.check_pairs.Given as goal

abbrev pub invariant-loop-pair : goal.invariant-loop-pair
invariant-loop-pair l =
    record {
      size : l.pair-iterator.size ≡ 2;
      rest : judge (pair_conditions l.count l.pair-iterator.rest.now) ≡ judge (pair_conditions l.count l.numbers);
    }
