use Prim.Native.Nat.{◌*◌, ◌-◌}
use mathlib.Core.Path.{◌≡◌}
use mathlib.Core.Bool.{true}
use lib.ListN.{length}
use Rattle.definition.specs.File.{records}
use Rattle.definition.specs.Load.{program_of}
use Rattle.progs.specs.Contexts.{config}
use Rattle.call_list.specs.Encoding.{call_in, formed_at, all_true}
use Rattle.call_list.proofs.Lists.{Left}
use Rattle.call_list.proofs.perform_all.Given as goal

abbrev pub invariant-loop-i : goal.invariant-loop-i
invariant-loop-i l =
    record {
      answers_long : length l.answers ≡ length l.initial.answers;
      cells_long : length l.cells ≡ length l.initial.cells;
      store_long : length l.store ≡ length l.initial.store;
      entities_long : length l.entities ≡ length l.initial.entities;
      formed : all_true (records (formed_at l.calls l.numbers) 3 (l.n - l.i) (3 * l.i)) ≡ true;
      left : Left (program_of l.file) (call_in l.calls l.numbers) l.n (config l.initial.context l.initial.cells l.initial.store l.initial.entities) (config l.context l.cells l.store l.entities) l.initial.answers l.answers l.i;
    }
