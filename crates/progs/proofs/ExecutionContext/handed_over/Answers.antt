use Rattle.std.proofs.Common.{◌≡◌, Err, rules}
use Rattle.functions.specs.Laws.{fetch_accepts}
use Rattle.progs.proofs.DoesLaws.{index_of, carry_unfetched, carry_handed, carry_27}
use Rattle.progs.proofs.ExecutionContext.handed_over.Goals as goal

pub returns-in_err-k-clause-refusal : goal.returns-in_err-k-clause-refusal
returns-in_err-k-clause-refusal c =
    let r : c.from_residual.result ≡ Err c.in_err-k.field-0.0 = search rules in
    λ e. rw r (carry_unfetched _ _ c.requires.loaded _ c.part-statements.ensures _ _ (search rules) e _ _ c.in_err-k.ensures)

pub hands_over-requires-clause-opcode_bound : goal.hands_over-requires-clause-opcode_bound
hands_over-requires-clause-opcode_bound c = (fetch_accepts _ _ _ _ c.in_ok-k.ensures).opcode

pub returns-then-not-hands_over-clause-refusal : goal.returns-then-not-hands_over-clause-refusal
returns-then-not-hands_over-clause-refusal c = λ e. carry_27 _ _ c.requires.loaded _ c.part-statements.ensures _ _ (search rules) e _ _ _ c.in_ok-k.ensures _ (c.hands_over.ensures c.args.self.now.pc e) c.if-not-hands_over.true

pub returns-clause-refusal : goal.returns-clause-refusal
returns-clause-refusal c = λ e. carry_handed _ _ c.requires.loaded _ c.part-statements.ensures _ _ (search rules) e _ _ _ c.in_ok-k.ensures _ (c.hands_over.ensures c.args.self.now.pc e) c.if-not-hands_over.false

pub returns-clause-index : goal.returns-clause-index
returns-clause-index c = index_of _ _ c.requires.loaded _ c.part-statements.ensures _ _ (search rules) _ _ c.in_ok-k.ensures
