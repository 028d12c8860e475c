use Rattle.floats.proofs.Whole.{moved_up}
use Rattle.floats.proofs.scaled_up.Goals as goal

pub returns : goal.returns
returns c = moved_up c.args.x c.requires.0 c.requires.1 c.from.result c.from.ensures
