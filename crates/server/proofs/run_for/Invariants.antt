use Rattle.std.specs.Prelude.{◌≡◌, length}
use Rattle.definition.specs.Load.{program_of}
use Rattle.progs.specs.Contexts.{config, Within}
use Rattle.server.proofs.RunLaws.{RunLeft}
use Rattle.server.proofs.run_for.Given as goal

abbrev pub invariant-loop-count : goal.invariant-loop-count
invariant-loop-count l =
    record {
      lengths : (length l.cells ≡ length l.initial.cells) × (length l.store ≡ length l.initial.store) × (length l.entities ≡ length l.initial.entities);
      file : l.recorded ≡ l.now.file;
      number : l.number ≡ l.now.entity_count;
      within : Within l.file l.now (length l.cells) (length l.store) (length l.entities);
      left : RunLeft (program_of l.file) l.bounds.limit l.bounds.target (config l.initial.now l.initial.cells l.initial.store l.initial.entities) (config l.now l.cells l.store l.entities) l.count;
    }
