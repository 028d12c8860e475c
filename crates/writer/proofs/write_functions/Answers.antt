-- `writer::write_functions` meets its contract: each turn writes the function of the next piece. Assumes nothing.
use Rattle.std.proofs.Common.{◌∙◌, rules}
use Rattle.text.specs.Writing.{left_all, next_room, left_next, left_none}
use Rattle.writer.proofs.Functions.{next_function, no_function}
use Rattle.writer.proofs.write_functions.Goals as goal

pub loop-function-init : goal.loop-function-init
loop-function-init c = record { size = search rules; left = left_all (cc) }

pub write_function-requires-clause-room : goal.write_function-requires-clause-room
write_function-requires-clause-room c =
    let k = c.loop-function.invariant in
    let step = c.in-Some.ensures.steps in
    next_room _ _ (next_function _ k.left _ _ step.1.0 (step.1.1 ∙ k.size)) c.requires

pub loop-function-preserved : goal.loop-function-preserved
loop-function-preserved c =
    let k = c.loop-function.invariant in
    let step = c.in-Some.ensures.steps in
    record { size = step.0 ∙ k.size; left = left_next (next_function _ k.left _ _ step.1.0 (step.1.1 ∙ k.size)) c.write_function.ensures }

pub returns : goal.returns
returns c = let k = c.loop-function.invariant in left_none (no_function _ k.left (rw k.size at c.in-None.ensures.steps.1.0))
