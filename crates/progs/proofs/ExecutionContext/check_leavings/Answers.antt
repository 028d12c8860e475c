use Rattle.std.proofs.Common.{◌≡◌, Err, rules, arith, ◌∙◌}
use Rattle.definition.specs.Load.{program_of}
use Rattle.progs.proofs.AbandonLaws.{none_left, leavings_refused, leavings_on}
use Rattle.progs.proofs.ExecutionContext.check_leavings.Goals as goal

pub returns-in_err-check_leaving : goal.returns-in_err-check_leaving
returns-in_err-check_leaving c =
    let r : c.from_residual.result ≡ Err c.in_err-check_leaving.field-0.0 = search rules in
    rw r (leavings_refused _ _ _ _ c.locals-locals.ensures (omega arith) _ (c.in_err-check_leaving.ensures.refusal _ c.locals-locals.ensures) ∙ c.loop.invariant.same)

pub loop-preserved : goal.loop-preserved
loop-preserved c =
    rw c.pop_frame.ensures
    (record {
      turns_left = omega arith;
      depth = omega arith;
      loaded = c.loop.invariant.loaded;
      same = leavings_on _ _ _ _ c.locals-locals.ensures (omega arith) (c.in_ok-check_leaving.ensures.refusal _ c.locals-locals.ensures) ∙ c.loop.invariant.same;
    })

pub returns : goal.returns
returns c = none_left (program_of c.args.file.now) c.args.target c.loop.context (omega arith) ∙ c.loop.invariant.same
