use Rattle.std.proofs.Common.{◌≡◌, arith}
use Rattle.std.proofs.Math.Facts.{to_z-of_z}
use Rattle.second_engine.proofs.quick.do_common.Goals as goal

pub returns-in_default-clause-goes : goal.returns-in_default-clause-goes
returns-in_default-clause-goes c = λ k e from all. rw (c.in_default.ensures k e from all) (rw (to_z-of_z c.ranges.pc) at (c.loop-done.invariant.goes k e from all))

pub returns-clause-goes : goal.returns-clause-goes
returns-clause-goes c =
    let all_done : c.loop-done.done ≡ c.args.most = omega (arith, c.loop-done-test.false, c.loop-done.auto.done-end) in
    λ k e from all. rw (to_z-of_z c.ranges.pc, all_done) at (c.loop-done.invariant.goes k e from all)
