-- TRACES. The small steps of a call are transitions of the machine, one after the other, with the log beside them. A claim over a list of calls is a
-- property of every small step, and one of every state between the calls.
use Rattle.std.specs.Prelude.{ℕ, ◌≡◌, List, [], ◌∷◌, length}
use Rattle.definition.specs.Checks.{accepted}
use Rattle.definition.specs.Machine.{with_unpacked, Config, with_entities, leave, completed, step}
use Rattle.definition.specs.Load.{program_of}
use Rattle.definition.specs.Operations.{host_enter, run, carry_on, raw_write, write_all}
use Rattle.definition.specs.Calls.{Call, enters, steps, runs, runs_unpacked, carries, abandons, reads, writes, writes_all, lends, after, small_steps}
use Rattle.definition.specs.Log.{Log, Kind, kind_of, noted}

-- the log after a small step of that kind from c
abbrev pub log_after : List ℕ → Kind → Config → Log → Log
log_after file k c l = noted file k c.state.pc c.state.function c.cells l

-- the transition relation: c' is what one small step of that call makes of c, by the definition of demand 2
abbrev pub Transition : List ℕ → Call → Config → Config → Type 0
Transition file (enters f) c c' = host_enter (program_of file) f c ≡ accepted c'
Transition file steps c c' = step (program_of file) c ≡ completed c'
Transition file (runs target limit) c c' = step (program_of file) c ≡ completed c'
Transition file (runs_unpacked buffer target limit) c c' = step (with_unpacked (program_of file) buffer) c ≡ completed c'
Transition file carries c c' = carry_on (program_of file) c ≡ accepted c'
Transition file (abandons target) c c' = leave (program_of file) c ≡ accepted c'
Transition file (reads a) c c' = ⊥
Transition file (writes a v) c c' = raw_write (program_of file) a v c ≡ accepted c'
Transition file (writes_all numbers) c c' = write_all (program_of file) numbers c ≡ accepted c'
Transition file (lends entities) c c' = with_entities c entities ≡ c'

-- what the log takes the next small step for
abbrev pub kind_at : List ℕ → Call → Config → Kind
kind_at file k c = kind_of file k c.state.pc c.cells

-- a property of a small step: its kind, the configuration and the log before it, the configuration after it
abbrev pub StepProperty : Type 1
StepProperty = Kind → Config → Log → Config → Type 0

-- a property of a configuration and the log beside it
abbrev pub StateProperty : Type 1
StateProperty = Config → Log → Type 0

-- the trace of one call: its small steps lead from c to c', each by a transition, and `Step` holds of each
abbrev pub Trace : List ℕ → StepProperty → Call → Config → Log → List Config → Config → Type 0
Trace file Step k c l [] c' = c ≡ c'
Trace file Step k c l (c₁ ∷ cs) c' =
    Transition file k c c₁ × Step (kind_at file k c) c l c₁ × Trace file Step k c₁ (log_after file (kind_at file k c) c l) cs c'

-- the log after these small steps
unfoldable pub log_after_steps : List ℕ → Call → Config → Log → List Config → Log
log_after_steps file k c l [] = l
log_after_steps file k c l (c₁ ∷ cs) = log_after_steps file k c₁ (log_after file (kind_at file k c) c l) cs

-- a run's small steps are as many as it counts
abbrev pub Counted : List ℕ → Call → Config → Type 0
Counted file (enters f) c = Unit {0}
Counted file steps c = Unit {0}
Counted file (runs target limit) c = length (small_steps (program_of file) (runs target limit) c) ≡ (run (program_of file) target limit c).count
Counted file (runs_unpacked buffer target limit) c =
    length (small_steps (program_of file) (runs_unpacked buffer target limit) c) ≡ (run (with_unpacked (program_of file) buffer) target limit c).count
Counted file carries c = Unit {0}
Counted file (abandons target) c = Unit {0}
Counted file (reads a) c = Unit {0}
Counted file (writes a v) c = Unit {0}
Counted file (writes_all numbers) c = Unit {0}
Counted file (lends entities) c = Unit {0}

-- `Step` always holds of a small step, and `At` of the state before the first call and after each: "The first call gets the state the load left, each
-- later one what the call before it left"
abbrev pub Always : List ℕ → StepProperty → StateProperty → Config → Log → List Call → Type 0
Always file Step At c l [] = At c l
Always file Step At c l (k ∷ ks) =
    let P = program_of file in
    At c l
    × Trace file Step k c l (small_steps P k c) (after P k c)
    × Counted file k c
    × Always file Step At (after P k c) (log_after_steps file k c l (small_steps P k c)) ks
