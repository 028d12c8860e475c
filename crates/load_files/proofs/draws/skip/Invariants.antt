-- `load_files::draws::skip` meets its contract. The loop's invariant: so many draws are made from the seed. Assumes nothing.
use Rattle.std.proofs.Common.{◌≡◌}
use Rattle.load_files.specs.Draws.{after}
use Rattle.load_files.proofs.draws.skip.Given as goal

abbrev pub invariant-loop : goal.invariant-loop
invariant-loop l = l.s ≡ after l.counter l.seed
