use Rattle.std.specs.Prelude.{◌≡◌}
use Rattle.std.proofs.Common.{rules, sym, ◌∙◌, tests}
use Rattle.definition.specs.Refusals.{number, refusal_in}
use Rattle.definition.proofs.RefusalLaws.{numbered}
use Rattle.typed.proofs.Laws.{stop, holds, judge_both}
use Rattle.entities.proofs.EntityTable.loaded.Goals as goal

pub returns-in_err-check_field-clause-refused : goal.returns-in_err-check_field-clause-refused
returns-in_err-check_field-clause-refused c =
    let h : refusal_in c.from_residual.result ≡ number c.in_err-check_field.field-0.0 = search rules in
    rw h (holds _ _ _ (search (rules, tests)) (stop _ _ _ (numbered _) c.in_err-check_field.ensures ∙ sym (judge_both _ _)))
