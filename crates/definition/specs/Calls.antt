-- A LIST OF CALLS after a load, as demand 3 speaks of it: what each call leaves, and the small steps that it completes on the way.
use Rattle.std.specs.Prelude.{ℕ, zero, suc, List, [], ◌∷◌, Bool, true, false, ℤ, eqb}
use Rattle.definition.specs.Checks.{Checked, refused, accepted, judge}
use Rattle.definition.specs.Machine.{Program, with_unpacked, Config, with_entities, left, Stepped, completed, refused_step, handed_step, step}
use Rattle.definition.specs.Operations.{natural, host_enter, statement, run_conditions, run, carry_on, leavings_to, abandon_conditions, abandon, raw_write, write_all}
use Rattle.definition.specs.Answers.{kept, statement_outcome}

-- "entries, statements, runs, carry-ons, host reads, host writes and abandonments", with any arguments
pub data Call : Type 0 where
  enters : ℤ → Call
  steps : Call
  -- target, limit
  runs : ℤ → ℤ → Call
  -- R-12: the second engine's, from this buffer
  runs_unpacked : List ℕ → ℤ → ℤ → Call
  carries : Call
  abandons : ℤ → Call
  reads : ℤ → Call
  writes : ℤ → ℕ → Call
  -- R-9: "one of the host writes"
  writes_all : List ℤ → Call
  -- R-3: "between calls the host may change any" of the lent entity cells: others are lent, of any number
  lends : List ℕ → Call

-- what a call leaves: what the operation gives
unfoldable pub after : Program → Call → Config → Config
after P (enters f) c = kept c (host_enter P f c)
after P steps c = (statement_outcome c (statement P c)).config
after P (runs target limit) c = (run P target limit c).config
after P (runs_unpacked buffer target limit) c = (run (with_unpacked P buffer) target limit c).config
after P carries c = kept c (carry_on P c)
after P (abandons target) c = kept c (abandon P target c)
after P (reads a) c = c
after P (writes a v) c = kept c (raw_write P a v c)
after P (writes_all numbers) c = kept c (write_all P numbers c)
after P (lends entities) c = with_entities c entities

-- ---- the configurations after each small step: each accepted entry, completed statement, leaving, carry on and write, and each lending of entity cells

abbrev pub if_accepted : Checked Config → List Config
if_accepted (refused n) = []
if_accepted (accepted c) = c ∷ []

abbrev pub if_completed : Stepped → List Config
if_completed (completed c) = c ∷ []
if_completed (refused_step n) = []
if_completed (handed_step h) = []

abbrev pub unless_ended : Bool → Config → (Config → List Config) → List Config
unless_ended true c rest = []
unless_ended false c rest = rest c

abbrev pub steps_as : Stepped → ℕ → (Config → List Config) → List Config
steps_as (completed c) target rest = c ∷ unless_ended (eqb c.state.depth target) c rest
steps_as (refused_step n) target rest = []
steps_as (handed_step h) target rest = []

-- the statements that a run completes
unfoldable pub run_steps : Program → ℕ → ℕ → Config → List Config
run_steps P zero target c = []
run_steps P (suc n) target c = steps_as (step P c) target (λ c'. run_steps P n target c')

abbrev pub run_steps_after : ℕ → Program → ℕ → ℕ → Config → List Config
run_steps_after zero P target limit c = run_steps P limit target c
run_steps_after (suc n) P target limit c = []

abbrev pub steps_of_run : Program → ℤ → ℤ → Config → List Config
steps_of_run P target limit c = run_steps_after (judge (run_conditions P target limit c)) P (natural target) (natural limit) c

-- the leavings of an abandonment
unfoldable pub leavings : Program → ℕ → Config → List Config
leavings P zero c = []
leavings P (suc n) c = left P c ∷ leavings P n (left P c)

abbrev pub leavings_after : ℕ → Program → ℕ → Config → List Config
leavings_after zero P n c = leavings P n c
leavings_after (suc m) P n c = []

unfoldable pub small_steps : Program → Call → Config → List Config
small_steps P (enters f) c = if_accepted (host_enter P f c)
small_steps P steps c = if_completed (statement P c)
small_steps P (runs target limit) c = steps_of_run P target limit c
small_steps P (runs_unpacked buffer target limit) c = steps_of_run (with_unpacked P buffer) target limit c
small_steps P carries c = if_accepted (carry_on P c)
small_steps P (abandons target) c = leavings_after (judge (abandon_conditions P target c)) P (leavings_to target c) c
small_steps P (reads a) c = []
small_steps P (writes a v) c = if_accepted (raw_write P a v c)
small_steps P (writes_all numbers) c = if_accepted (write_all P numbers c)
small_steps P (lends entities) c = with_entities c entities ∷ []
