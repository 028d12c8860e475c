-- `writer::without_profile` meets its contract. Assumes nothing.
use Rattle.std.proofs.Common.{arith}
use Rattle.definition.specs.File.{byte_at}
use Rattle.writer.proofs.Functions.{zeroed}
use Rattle.writer.proofs.without_profile.Goals as goal

pub returns : goal.returns
unfolding byte_at
returns c =
    zeroed c.args.function.now (record { below = λ i. omega (arith, c.type_inv.function i) }) c.requires c.copy_from_slice.ensures.after c.copy_from_slice-2.ensures.after
