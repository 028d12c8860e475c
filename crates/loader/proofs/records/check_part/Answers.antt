use Rattle.std.proofs.Common.{◌≡◌, ◌∙◌, rules}
use Rattle.definition.specs.Refusals.{number, refusal_in}
use Rattle.definition.proofs.RefusalLaws.{numbered}
use Rattle.loader.proofs.Each.{none_left, refuses, passes}
use Rattle.loader.proofs.records.check_part.Goals as goal

pub loop-bytes-preserved : goal.loop-bytes-preserved
loop-bytes-preserved g c =
    let r = g.met.R.FromBytes in
    let k = c.loop-bytes.invariant in
    let step = c.in-Some.ensures.steps in
    record { size = step.0 ∙ k.size; rest = passes _ _ _ _ k.rest r.sized.0 r.local _ _ step.1.0 (step.1.1 ∙ k.size) c.read.ensures c.in_ok-check.ensures }

pub returns-in_err-check : goal.returns-in_err-check
returns-in_err-check g c =
    let h : refusal_in c.from_residual.result ≡ number c.in_err-check.field-0.0 = search rules in
    let r = g.met.R.FromBytes in
    let k = c.loop-bytes.invariant in
    let step = c.in-Some.ensures.steps in
    rw h (refuses _ _ _ _ k.rest r.sized.0 r.local _ _ step.1.0 (step.1.1 ∙ k.size) c.read.ensures _ (numbered _) c.in_err-check.ensures)

pub returns : goal.returns
returns g c = let k = c.loop-bytes.invariant in none_left _ g.R.FromBytes.read_at _ _ k.rest (rw k.size at c.in-None.ensures.steps.1.0)
