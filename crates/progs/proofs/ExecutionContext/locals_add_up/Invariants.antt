-- What is left of the entered functions adds up as all of them do.
use Rattle.std.proofs.Common.{◌≡◌, ◌-◌, ◌*◌, ◌≤◌, length}
use Rattle.definition.specs.Load.{program_of}
use Rattle.definition.specs.Operations.{entered_at}
use Rattle.progs.proofs.StateLaws.{adds_up}
use Rattle.progs.proofs.ExecutionContext.locals_add_up.Given as goal

abbrev pub invariant-loop-frame : goal.invariant-loop-frame
invariant-loop-frame l =
    (l.sum ≤ length l.yielded * 2147483648)
    × (adds_up (program_of l.file) l.self.saved l.sum (entered_at (l.self.depth - length l.yielded) l.f l.self.frames)
    ≡ adds_up (program_of l.file) l.self.saved 0 (entered_at l.self.depth l.self.current_function l.self.frames))
