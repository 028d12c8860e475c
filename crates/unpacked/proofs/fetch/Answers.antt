use Rattle.std.proofs.Common.{rules}
use Rattle.std.proofs.Math.Facts.{to_z-of_z}
use Rattle.definition.specs.File.{unpacked_statements}
use Rattle.functions.proofs.Fetching.{reads_law}
use Rattle.unpacked.proofs.fetch.Goals as goal

pub returns : goal.returns
returns c =
    let by = c.fetch_by.ensures (unpacked_statements c.args.buffer.now c.args.count) (reads_law _ _ _ _ (λ k st given. search rules)) in
    rw (to_z-of_z c.ranges.pc) at by
