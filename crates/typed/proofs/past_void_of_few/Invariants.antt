-- The definitions that are left give what all of them give.
use Rattle.std.specs.Prelude.{◌≡◌}
use Rattle.std.specs.Slice.Iter.{chunks_exact_rest, chunks_exact_size}
use Rattle.definition.specs.Cells.{lookup}
use Rattle.functions.specs.Parts.{definitions_in}
use Rattle.typed.proofs.past_void_of_few.Given as goal

abbrev pub invariant-loop-definition : goal.invariant-loop-definition
invariant-loop-definition l =
    (goal.iterator-loop-definition).can_next l.definition-iterator
    × (goal.iterator-loop-definition).is_finite l.definition-iterator
    × (chunks_exact_size l.definition-iterator ≡ 8)
    × (lookup (definitions_in (chunks_exact_rest l.definition-iterator)) l.wanted ≡ lookup (definitions_in l.defs) l.wanted)
