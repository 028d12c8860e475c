use Rattle.std.proofs.Common.{rules}
use Rattle.execution.proofs.ByShape.{fielded, call_stopped}
use Rattle.execution.proofs.execute.Goals as goal

pub returns-in_err-field-in-Fields : goal.returns-in_err-field-in-Fields
returns-in_err-field-in-Fields c =
    fielded _ _ _ _ _ _ _ c.requires.usable.lumps _ c.part.ensures _ c.shape_of.ensures _ c.operands-in-Fields.ensures _ c.in-Fields.is _ c.part-in-Fields.ensures _ _ _ _ (search rules) (c.in_err-field-in-Fields.ensures _)

pub returns-in_ok-field-in-Fields : goal.returns-in_ok-field-in-Fields
returns-in_ok-field-in-Fields c =
    fielded _ _ _ _ _ _ _ c.requires.usable.lumps _ c.part.ensures _ c.shape_of.ensures _ c.operands-in-Fields.ensures _ c.in-Fields.is _ c.part-in-Fields.ensures _ _ _ _ (search rules) (c.in_ok-field-in-Fields.ensures _)

pub returns-in_err-callee-in-Call : goal.returns-in_err-callee-in-Call
returns-in_err-callee-in-Call c =
    call_stopped _ _ _ _ _ _ _ c.requires.usable.lumps _ c.part.ensures _ c.shape_of.ensures c.in-Call.is _ c.part-functions.ensures _ c.cell_of-in-Call.ensures _ _ (search rules) (c.in_err-callee-in-Call.ensures _)
