use Rattle.std.proofs.Common.{◌+◌, ◌<◌, rules, arith, w64, FitsSigned}
use Rattle.std.proofs.Math.Facts.{to_z-of_z}
use Rattle.definition.specs.Load.{program_of}
use Rattle.definition.specs.Machine.{with_unpacked}
use Rattle.progs.specs.Contexts.{config}
use Rattle.server.proofs.RunLaws.{RunLeft, run_spent, run_refused, run_handed, run_ended, run_again}
use Rattle.second_engine.proofs.RunLaws.{moved_to, went_left}
use Rattle.second_engine.proofs.run_for.Goals as goal
use Rattle.second_engine.proofs.run_for.Goals.{After-do_common-went, Else-bounds-count, else-loop-count-test, then-loop-count-test+then-bounds-count}

-- after the common statements

went_fits : (c : After-do_common-went) → FitsSigned w64 c.do_common-went.result.pc
went_fits c = search rules

left : (c : After-do_common-went)
    → let l = c.loop-count in
    let s = c.args in
    let d = c.do_common-went in
    RunLeft (with_unpacked (program_of s.file.now) s.buffer.now) s.bounds.limit s.bounds.target (config s.context s.cells.now s.store.now s.entities.now)
    (config (moved_to l.now d.result.pc) d.new.cells l.store l.entities) (l.count + d.result.count)
left c =
    let l = c.loop-count in
    let d = c.do_common-went in
    let fits : FitsSigned w64 l.now.pc = search rules in
    went_left _ _ _ c.requires.within.loaded _ c.untyped_cells-untyped.ensures.1 _ _ _ _ _ _ _ _ _ l.invariant.apart _ _ _ (to_z-of_z fits) l.invariant.left (omega (arith, d.ensures.few, c.loop-count-test.true)) d.ensures.goes

-- there are statements left
more : (c : Else-bounds-count) → c.loop-count.count + c.do_common-went.result.count < c.args.bounds.limit
more c = omega (arith, c.if-bounds-count.false)

pub returns-then-now-bounds : goal.returns-then-now-bounds
returns-then-now-bounds c =
    let p = goal.at.returns-then-now-bounds c in
    run_ended _ _ _ _ _ _ (left p.After-do_common-went) (more p.Else-bounds-count) _ _ _ _ _ (rw (to_z-of_z (went_fits p.After-do_common-went)) at c.step.ensures.outcome) (cc) c.if-now-bounds.true _ c.new.ensures

pub returns-in-Ok-Some : goal.returns-in-Ok-Some
returns-in-Ok-Some c =
    let p = goal.at.returns-in-Ok-Some c in
    run_handed _ _ _ _ _ _ (left p.After-do_common-went) (more p.Else-bounds-count) _ _ _ _ _ (rw (to_z-of_z (went_fits p.After-do_common-went)) at c.step.ensures.outcome) _ (cc) _ c.new-in-Ok-Some.ensures

pub returns-in-Err : goal.returns-in-Err
returns-in-Err c =
    let p = goal.at.returns-in-Err c in
    run_refused _ _ _ _ _ _ (left p.After-do_common-went) (more p.Else-bounds-count) _ _ _ _ _ (rw (to_z-of_z (went_fits p.After-do_common-went)) at c.step.ensures.outcome) _ (cc) _ c.refused.ensures

pub loop-count-preserved : goal.loop-count-preserved
loop-count-preserved c =
    let p = goal.at.loop-count-preserved c in
    let i = c.loop-count.invariant in
    record {
      lengths = search rules;
      file = search rules;
      number = search rules;
      within = search rules;
      apart = c.if-now-bounds.false;
      left = run_again _ _ _ _ _ _ (left p.After-do_common-went) (more p.Else-bounds-count) _ _ _ _ _ (rw (to_z-of_z (went_fits p.After-do_common-went)) at c.step.ensures.outcome) (cc) c.if-now-bounds.false;
    }

pub returns : goal.returns
returns c =
    elim c.loop-count-test.branch [
      | else-loop-count-test w ↦ rw (c.new-2.ensures, w.cells-is, w.now-is, w.count-is) (run_spent _ _ _ _ _ _ w.loop-count-test.false c.loop-count.invariant.left)
      | then-loop-count-test+then-bounds-count w ↦
          let l = c.loop-count in
          let d = w.do_common-went in
          let from : FitsSigned w64 l.now.pc = search rules in
          let to : FitsSigned w64 d.result.pc = search rules in
          rw (c.new-2.ensures, w.cells-is, w.now-is, w.count-is, to_z-of_z to)
          (run_spent _ _ _ _ _ _ w.if-bounds-count.true
          (went_left _ _ _ c.requires.within.loaded _ c.untyped_cells-untyped.ensures.1 _ _ _ _ _ _ _ _ _ l.invariant.apart _ _ _ (to_z-of_z from) l.invariant.left (omega (arith, d.ensures.few, w.loop-count-test.true)) d.ensures.goes))
    ]
