use Rattle.std.proofs.Common.{sym, ◌∙◌}
use Rattle.std.proofs.Math.Nat.{zero-add}
use Rattle.definition.proofs.RecordLaws.{get_d_records}
use Rattle.functions.proofs.get_def.Goals as goal

pub returns : goal.returns
returns c = c.read_function.ensures ∙ sym (get_d_records _ 36 _ _ _ _ c.requires ∙ rw zero-add)
