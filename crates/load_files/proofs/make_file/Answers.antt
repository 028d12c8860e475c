-- `load_files::make_file` meets its contract: what is permitted is written, or refused 34. Assumes nothing.
use Rattle.std.proofs.Common.{◌≡◌, true, not, ◌&&◌, eqb, rules, to_z-of_z}
use Rattle.definition.specs.File.{between}
use Rattle.load_files.proofs.Making.{permitted_made}
use Rattle.load_files.proofs.make_file.Goals as goal

pub returns-then-contains : goal.returns-then-contains
returns-then-contains c =
    let fits : (not (eqb c.args.seed 0) && between 1 1000 c.place_of-count.result) ≡ true = search rules in
    permitted_made _ _ _ _ (rw (to_z-of_z c.ranges.n) at c.place_of-count.ensures) fits _ _ c.write_file.ensures
