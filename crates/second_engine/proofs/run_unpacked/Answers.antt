use Rattle.std.proofs.Common.{◌≡◌, sym, ◌∙◌, rules}
use Rattle.definition.specs.Checks.{refused, accepted, guard}
use Rattle.definition.specs.Refusals.{number}
use Rattle.server.specs.Stepping.{bounds_conditions, bounds_of}
use Rattle.second_engine.proofs.RunLaws.{unpacked_outside, unpacked_inside, bounds_apart}
use Rattle.second_engine.proofs.run_unpacked.Goals as goal
use Rattle.second_engine.proofs.run_unpacked.Goals.{In-Ok}

inside : (c : In-Ok) → let s = c.args in accepted c.in-Ok.bounds ≡ guard (bounds_conditions s.target s.limit s.context.settings.limit s.context.depth) (bounds_of s.target s.limit)
inside c = search rules

pub run_for-requires-clause-apart : goal.run_for-requires-clause-apart
run_for-requires-clause-apart c = bounds_apart c.args.target c.args.limit _ c.args.context.settings.limit _ (inside (goal.at.run_for-requires-clause-apart c).In-Ok)

pub returns-in-Ok : goal.returns-in-Ok
returns-in-Ok c =
    unpacked_inside _ _ _ _ _ _ _ _ (sym c.check_state.ensures ∙ c.if-not-check_state.false) c.if-buffer-context.false _ (inside (goal.at.returns-in-Ok c).In-Ok) _ c.run_for.ensures

pub returns-in-Err : goal.returns-in-Err
returns-in-Err c =
    let s = c.args in
    let outside : refused (number c.in-Err.refusal) ≡ guard (bounds_conditions s.target s.limit s.context.settings.limit s.context.depth) (bounds_of s.target s.limit) = search rules in
    unpacked_outside _ _ _ _ _ _ _ _ (sym c.check_state.ensures ∙ c.if-not-check_state.false) c.if-buffer-context.false _ outside _ c.refused-in-Err.ensures
