use Rattle.std.proofs.Common.{arith, sym, ◌∙◌}
use Rattle.definition.specs.Load.{program_of}
use Rattle.progs.proofs.CopyLaws.{present_more}
use Rattle.progs.proofs.AbandonLaws.{all_left, present_here, leaves_here, leavings_on, times_on}
use Rattle.progs.proofs.StateLaws.{left_within}
use Rattle.progs.proofs.ExecutionContext.unwind.Goals as goal

pub leave_function-requires-clause-count_le_saved : goal.leave_function-requires-clause-count_le_saved
leave_function-requires-clause-count_le_saved c =
    let p = present_here _ _ _ _ c.locals-locals.ensures (omega arith) c.loop.invariant.clear in
    (p.0, omega arith)

pub leave_function-requires-clause-cells_value : goal.leave_function-requires-clause-cells_value
leave_function-requires-clause-cells_value c =
    let p = present_here _ _ _ _ c.locals-locals.ensures (omega arith) c.loop.invariant.clear in
    present_more _ _ _ _ c.loop.invariant.lent.lent p.1

pub loop-preserved : goal.loop-preserved
loop-preserved c =
    let is = c.locals-locals.ensures in
    let none = leaves_here _ _ _ _ is (omega arith) c.loop.invariant.clear in
    record {
      turns_left = rw c.leave_function.ensures.context (omega arith);
      lent = rw (c.leave_function.ensures.context, c.leave_function.auto.cells) (left_within _ _ _ _ _ _ c.loop.invariant.lent);
      clear = rw c.leave_function.ensures.context (leavings_on _ _ _ _ is (omega arith) (sym none) ∙ c.loop.invariant.clear);
      leads = λ entities. times_on _ _ _ _ is (omega arith) _ _ entities _ _ (c.leave_function.ensures.outcome _ entities is) ∙ c.loop.invariant.leads entities;
    }

pub returns : goal.returns
returns c = λ entities. all_left (program_of c.args.file.now) c.args.target c.loop.self (omega arith) c.loop.cells _ entities ∙ c.loop.invariant.leads entities
