use Rattle.std.proofs.Common.{sym, ◌∙◌, ◌≡◌, rules}
use Rattle.definition.specs.Checks.{refused, accepted, guard}
use Rattle.definition.specs.Refusals.{number}
use Rattle.server.specs.Stepping.{bounds_conditions, bounds_of}
use Rattle.server.proofs.HostLaws.{file_room, run_outside, run_inside}
use Rattle.server.proofs.run.Goals as goal

pub returns-in-Ok : goal.returns-in-Ok
returns-in-Ok c =
    let within : accepted c.in-Ok.bounds ≡ guard (bounds_conditions c.args.target c.args.limit c.args.context.settings.limit c.args.context.depth) (bounds_of c.args.target c.args.limit) = search rules in
    run_inside _ _ _ _ _ _ _ (sym c.check_state.ensures ∙ c.if-not-check_state.false) (file_room c.args.file.now) _ within _ c.run_for.ensures

pub returns-in-Err : goal.returns-in-Err
returns-in-Err c =
    let outside : refused (number c.in-Err.refusal) ≡ guard (bounds_conditions c.args.target c.args.limit c.args.context.settings.limit c.args.context.depth) (bounds_of c.args.target c.args.limit) = search rules in
    run_outside _ _ _ _ _ _ _ (sym c.check_state.ensures ∙ c.if-not-check_state.false) (file_room c.args.file.now) _ outside _ c.refused-in-Err.ensures
