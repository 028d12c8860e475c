use Rattle.std.proofs.Common.{◌≡◌, rules, ◌∙◌, to_z-of_z}
use Rattle.definition.specs.Checks.{refused}
use Rattle.definition.specs.Refusals.{checked}
use Rattle.view.proofs.Finding.{definition_outside, definition_absent_law, definition_there, definition_ends}
use Rattle.view.proofs.Functions.definition.Goals as goal

pub returns-in_err-defs : goal.returns-in_err-defs
returns-in_err-defs c = let h : checked c.from_residual.result ≡ refused 4 = search rules in h ∙ definition_outside _ _ _ c.in_err-defs.ensures.0

pub read_definition-requires : goal.read_definition-requires
read_definition-requires c = definition_ends _ _ c.args.index c.in_ok-defs.ensures.0 _ (rw (to_z-of_z c.ranges.index) at c.place_of-i.ensures) _ c.in_ok-defs.ensures.1 c.if-i-lump.true

pub returns-then-i-lump : goal.returns-then-i-lump
returns-then-i-lump c = definition_there _ _ _ c.in_ok-defs.ensures.0 _ (rw (to_z-of_z c.ranges.index) at c.place_of-i.ensures) _ c.if-i-lump.true (rw c.in_ok-defs.ensures.1 at c.read_definition.ensures)

pub returns-else-i-lump : goal.returns-else-i-lump
returns-else-i-lump c = definition_absent_law _ _ _ c.in_ok-defs.ensures.0 _ (rw (to_z-of_z c.ranges.index) at c.place_of-i.ensures) c.if-i-lump.false
