use Rattle.std.proofs.Common.{◌≡◌, Ok, Err, rules, refl, ◌∙◌, arith, w64, FitsSigned}
use Rattle.std.proofs.Math.Facts.{to_z-of_z}
use Rattle.definition.specs.declared.refusal.Refusal.TheVariants as refusal
use Rattle.definition.specs.Load.{program_of}
use Rattle.progs.specs.Numbers.{entry_of, entering}
use Rattle.progs.proofs.FileLaws.{function_there, entry_20}
use Rattle.progs.proofs.OutcomeLaws.{refused_outcome}
use Rattle.progs.proofs.NumberLaws.{by_numbers, refused_entry, entry_room, accepted_entry}
use Rattle.progs.proofs.ExecutionContext.enter_function.Goals as goal
use Rattle.progs.proofs.ExecutionContext.enter_function.Goals.{In_ok-entry}

done : (c : In_ok-entry)
    → entry_of (Ok c.in_ok-entry.entry) c.enter_found.new.cells c.enter_found.new.store ≡ entering (program_of c.args.file.now) c.args.f c.args.self.now c.args.cells.now c.args.store.now
done c = c.in_ok-entry.ensures (program_of c.args.file.now) c.args.f (function_there _ _ c.requires.loaded _ c.if-self-f.false) c.get_def-def.ensures ∙ by_numbers _ _ c.args.self.now _ _

pub returns-then-self-f-clause-outcome : goal.returns-then-self-f-clause-outcome
returns-then-self-f-clause-outcome c = λ entities. refused_outcome _ _ _ entities _ _ refusal.NoFunction (entry_20 _ _ c.requires.loaded _ _ c.if-self-f.true)

pub returns-in_err-entry-clause-outcome : goal.returns-in_err-entry-clause-outcome
returns-in_err-entry-clause-outcome c =
    let r : c.from_residual.result ≡ Err c.in_err-entry.field-0.0 = search rules in
    let none : entry_of (Err c.in_err-entry.field-0.0) c.enter_found.new.cells c.enter_found.new.store ≡ entering (program_of c.args.file.now) c.args.f c.args.self.now c.args.cells.now c.args.store.now =
    c.in_err-entry.ensures (program_of c.args.file.now) c.args.f (function_there _ _ c.requires.loaded _ c.if-self-f.false) c.get_def-def.ensures ∙ by_numbers _ _ c.args.self.now _ _ in
    λ entities. rw r (refused_entry _ _ _ _ _ _ _ _ none entities _)

pub push_frame-requires : goal.push_frame-requires
push_frame-requires c = entry_room _ _ _ _ _ _ _ _ (done (goal.at.push_frame-requires c).In_ok-entry) c.requires.range

pub returns-clause-outcome : goal.returns-clause-outcome
returns-clause-outcome c =
    let first : FitsSigned w64 c.in_ok-entry.entry.first = search rules in
    λ entities.
    accepted_entry _ _ _ _ _ _ _ _ (done (goal.at.returns-clause-outcome c).In_ok-entry) entities _ _ (rw (to_z-of_z first, to_z-of_z c.ranges.back) at c.push_frame.ensures)

pub returns-clause-kept : goal.returns-clause-kept
returns-clause-kept c =
    let room = entry_room _ _ _ _ _ _ _ _ (done (goal.at.returns-clause-kept c).In_ok-entry) c.requires.range in
    rw c.push_frame.ensures (record { file = refl; settings = refl; entity_count = refl; depth = omega (arith, room.0); saved = room.1 })
