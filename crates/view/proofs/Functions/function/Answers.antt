use Rattle.std.proofs.Common.{◌≡◌, rules, ◌∙◌, to_z-of_z}
use Rattle.definition.specs.Checks.{refused}
use Rattle.definition.specs.Refusals.{checked}
use Rattle.view.proofs.Finding.{function_outside, function_absent, function_there, function_below}
use Rattle.view.proofs.Functions.function.Goals as goal

pub returns-in_err-functions : goal.returns-in_err-functions
returns-in_err-functions c = let h : checked c.from_residual.result ≡ refused 4 = search rules in h ∙ function_outside _ _ _ c.in_err-functions.ensures.0

pub get_def-requires : goal.get_def-requires
get_def-requires c = function_below _ c.args.self.recorded c.args.id c.in_ok-functions.ensures.0 _ (rw (to_z-of_z c.ranges.id) at c.place_of-f.ensures) _ c.in_ok-functions.ensures.1 c.if-f-lump.true

pub returns-then-f-lump : goal.returns-then-f-lump
returns-then-f-lump c = function_there _ _ _ c.in_ok-functions.ensures.0 _ (rw (to_z-of_z c.ranges.id) at c.place_of-f.ensures) _ c.if-f-lump.true _ c.in_ok-functions.ensures.1 c.get_def.ensures

pub returns-else-f-lump : goal.returns-else-f-lump
returns-else-f-lump c = function_absent _ _ _ c.in_ok-functions.ensures.0 _ (rw (to_z-of_z c.ranges.id) at c.place_of-f.ensures) c.if-f-lump.false
