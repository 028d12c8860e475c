use Rattle.std.proofs.Common.{◌≡◌, Ok, Err, rules, refl, ◌∙◌}
use Rattle.definition.specs.Load.{program_of}
use Rattle.progs.specs.Numbers.{leaving_of, returning}
use Rattle.progs.proofs.ReturnLaws.{return_by_count, refused_return, return_room, accepted_return}
use Rattle.progs.proofs.ExecutionContext.op_return.Goals as goal
use Rattle.progs.proofs.ExecutionContext.op_return.Goals.{In_ok-leaving}

done : (c : In_ok-leaving)
    → leaving_of (Ok c.in_ok-leaving.leaving) c.return_found.new.cells ≡ returning (program_of c.args.file.now) c.args.a c.args.self.now c.args.cells.now c.args.store.now
done c = c.in_ok-leaving.ensures (program_of c.args.file.now) _ c.locals-locals.ensures ∙ return_by_count _ _ c.args.self.now _ _ _ refl

pub returns-in_err-leaving-clause-outcome : goal.returns-in_err-leaving-clause-outcome
returns-in_err-leaving-clause-outcome c =
    let r : c.from_residual.result ≡ Err c.in_err-leaving.field-0.0 = search rules in
    let none : leaving_of (Err c.in_err-leaving.field-0.0) c.return_found.new.cells ≡ returning (program_of c.args.file.now) c.args.a c.args.self.now c.args.cells.now c.args.store.now =
    c.in_err-leaving.ensures (program_of c.args.file.now) _ c.locals-locals.ensures ∙ return_by_count _ _ c.args.self.now _ _ _ refl in
    λ entities. rw r (refused_return _ _ _ _ _ _ _ none entities)

pub pop_frame-requires : goal.pop_frame-requires
pop_frame-requires c = let room = return_room _ _ _ _ _ _ _ (done (goal.at.pop_frame-requires c).In_ok-leaving) in (room.0, (c.requires.depth, room.1))

pub returns-clause-outcome : goal.returns-clause-outcome
returns-clause-outcome c = λ entities. accepted_return _ _ _ _ _ _ _ (done (goal.at.returns-clause-outcome c).In_ok-leaving) entities _ c.pop_frame.ensures
