use Rattle.std.proofs.Common.{refl, arith, rules, ◌≡◌, ◌+◌, ◌-◌}
use mir.Syntax.{w64}
use mir.Val.{SFits}
use mir.Facts.{to_z-of_z}
use Rattle.definition.specs.Calls.{enters, carries, abandons, writes, writes_all, after}
use Rattle.call_list.specs.Encoding.{reply}
use Rattle.call_list.proofs.Replies.{answered, read, stepped, ran}
use Rattle.call_list.proofs.perform.Goals as goal

pub returns-in-Enter : goal.returns-in-Enter
unfolding reply after
returns-in-Enter c =
    let f : SFits w64 c.in-Enter.function = search rules in
    rw c.in-Enter.is (answered _ _ _ _ _ _ (enters _) _ _ _ refl refl c.reply_checked.ensures (rw (to_z-of_z f) at c.enter-answer.ensures))

pub returns-in-Step : goal.returns-in-Step
returns-in-Step c = rw c.in-Step.is (stepped _ _ _ _ _ _ _ c.reply_statement.ensures c.statement.ensures)

pub returns-in-Run : goal.returns-in-Run
returns-in-Run c =
    let t : SFits w64 c.in-Run.target = search rules in
    let l : SFits w64 c.in-Run.limit = search rules in
    rw c.in-Run.is (ran _ _ _ _ _ _ _ _ _ c.reply_run.ensures (rw (to_z-of_z t, to_z-of_z l) at c.run.ensures))

pub returns-in-CarryOn : goal.returns-in-CarryOn
unfolding reply after
returns-in-CarryOn c = rw c.in-CarryOn.is (answered _ _ _ _ _ _ carries _ _ _ refl refl c.reply_checked-in-CarryOn.ensures c.carry_on-answer.ensures)

pub returns-in-Abandon : goal.returns-in-Abandon
unfolding reply after
returns-in-Abandon c =
    let t : SFits w64 c.in-Abandon.target = search rules in
    rw c.in-Abandon.is (answered _ _ _ _ _ _ (abandons _) _ _ _ refl refl c.reply_checked-in-Abandon.ensures (rw (to_z-of_z t) at c.abandon-answer.ensures))

pub returns-in-Read : goal.returns-in-Read
returns-in-Read c =
    let a : SFits w64 c.in-Read.address = search rules in
    rw c.in-Read.is (read _ _ _ _ _ _ _ _ _ refl c.reply_value.ensures (rw (to_z-of_z a) at c.read-answer.ensures))

pub returns-in-Write : goal.returns-in-Write
unfolding reply after
returns-in-Write c =
    let a : SFits w64 c.in-Write.address = search rules in
    rw c.in-Write.is (answered _ _ _ _ _ _ (writes _ _) _ _ _ refl refl c.reply_checked-in-Write.ensures (rw (to_z-of_z a) at c.write-answer.ensures))

pub returns-in-WriteAll : goal.returns-in-WriteAll
unfolding reply after
returns-in-WriteAll c =
    let n : c.in-WriteAll.first + c.in-WriteAll.count - c.in-WriteAll.first ≡ c.in-WriteAll.count = omega arith in
    rw c.in-WriteAll.is (answered _ _ _ _ _ _ (writes_all _) _ _ _ refl refl c.reply_checked-in-WriteAll.ensures (rw n at c.write_all-answer.ensures))
