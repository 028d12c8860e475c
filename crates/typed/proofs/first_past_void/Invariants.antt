-- The definitions that are left give what all of them give, and their number is even.
use Rattle.std.specs.Prelude.{◌≡◌, ◌/◌, ◌%◌, length}
use Rattle.std.specs.Slice.Iter.{chunks_exact_rest, chunks_exact_size}
use Rattle.definition.specs.Cells.{lookup}
use Rattle.functions.specs.Parts.{definitions_in}
use Rattle.typed.specs.Typing.{found}
use Rattle.typed.proofs.first_past_void.Given as goal

abbrev pub invariant-loop-two : goal.invariant-loop-two
invariant-loop-two l =
    (goal.iterator-loop-two).can_next l.two-iterator
    × (goal.iterator-loop-two).is_finite l.two-iterator
    × (chunks_exact_size l.two-iterator ≡ 16)
    × (length (chunks_exact_rest l.two-iterator) / 8 % 2 ≡ 0)
    × (found (lookup (definitions_in (chunks_exact_rest l.two-iterator)) l.wanted) ≡ found (lookup (definitions_in l.defs) l.wanted))
