use Rattle.std.proofs.Common.{◌≡◌, rules, ◌∙◌, to_z-of_z}
use Rattle.definition.specs.Checks.{refused}
use Rattle.definition.specs.Refusals.{checked}
use Rattle.view.proofs.Finding.{statement_outside, statement_fetched}
use Rattle.view.proofs.Functions.statement.Goals as goal

pub returns-in_err-lent : goal.returns-in_err-lent
returns-in_err-lent c = let h : checked c.from_residual.result ≡ refused 4 = search rules in h ∙ statement_outside _ _ _ c.in_err-lent.ensures.0

pub returns : goal.returns
returns c = statement_fetched _ _ _ _ c.in_ok-lent.ensures.0 _ c.in_ok-lent.ensures.1 (rw (to_z-of_z c.ranges.pc) at c.fetch.ensures)
