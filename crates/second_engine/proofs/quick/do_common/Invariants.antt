use Rattle.std.specs.Prelude.{◌≡◌, length}
use Rattle.definition.specs.File.{Contents, unpacked_statements}
use Rattle.definition.specs.Cells.{typing_of}
use Rattle.definition.specs.Statements.{Entities, does_at}
use Rattle.second_engine.specs.Quickly.{AllFloats, GoesOn}
use Rattle.second_engine.proofs.quick.do_common.Given as goal

abbrev pub invariant-loop-done : goal.invariant-loop-done
invariant-loop-done l =
    record {
      cells_long : length l.cells ≡ length l.initial.cells;
      goes : (k : Contents) (e : Entities) → k.statements ≡ unpacked_statements l.buffer l.count → AllFloats (typing_of k) l.untyped → GoesOn (λ p cs. does_at k p e cs) l.done l.pc l.initial.cells l.at l.cells;
    }
