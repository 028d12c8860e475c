use Rattle.std.proofs.Math.Nat.{add-sub_cancel_left}
use Rattle.functions.specs.PartLaws.{taken_bytes}
use Rattle.functions.proofs.reads.read_argsz.Goals as goal

pub returns : goal.returns
returns c = rw (c.copy_from_slice.ensures.after, add-sub_cancel_left) (taken_bytes _ 8 _ c.requires)
