use Rattle.std.proofs.Common.{rules}
use Rattle.std.proofs.Math.Facts.{to_z-of_z}
use Rattle.functions.specs.Parts.{statements_in}
use Rattle.functions.proofs.Fetching.{reads_law}
use Rattle.functions.proofs.fetch.fetch.Goals as goal

pub returns : goal.returns
returns c =
    let by = c.fetch_by.ensures (statements_in c.args.statements.now) (reads_law _ _ _ _ (λ k st given. search rules)) in
    rw (to_z-of_z c.ranges.pc) at by
