-- What check 13 asks stays so: from any state that passes it, in which a host may have put what it likes, every completed statement, entry and leaving leads
-- to one that passes it too. For every program that keeps the number of cells, so for the bytes of any file. (`Sound` is about the states that calls reach
-- after an accepted load.)
use Rattle.std.specs.Prelude.{ℕ, ◌+◌, ◌-◌, ◌≤◌, ◌<◌, ◌≡◌, List, true, ℤ, ◌+ℤ◌, drop}
use Rattle.std.proofs.Math.Path.{refl}
use Rattle.std.proofs.Common.{arith}
use borrow.Author.Tests.{ltb-true}
use Rattle.std.proofs.Math.IntN.{pos}
use Rattle.std.proofs.Math.ListN.{length, length-drop}
use Rattle.std.proofs.Math.Seq.{paste, length-paste}
use Rattle.definition.specs.declared.FileRecord.{FileRecord}
use Rattle.definition.specs.Checks.{guard}
use Rattle.definition.specs.File.{greatest_depth}
use Rattle.definition.specs.Statements.{Entities, Does, next, puts, calls, returns, refuses, hands_over}
use Rattle.definition.specs.Machine.{Program, function_of, Config, entities_of, count_of, copied, successive, arguments_of, with_cells, advanced}
use Rattle.definition.specs.Machine.{entry_conditions, entered, enter, leave_conditions, left, return_conditions, returned, step_as, step, run_for}
use Rattle.definition.specs.Operations.{entered_functions, sound}
use Rattle.definition.specs.CheckLaws.{All}
use Rattle.definition.proofs.CheckLaws.{guarded}
use Rattle.definition.proofs.LoadLaws.{in_range_fits}
use Rattle.definition.specs.Parts.{Present}
use Rattle.definition.proofs.Parts.{present_true, present_more, present_source, length_pasted, length_copied}
use Rattle.laws.specs.Entities.{WhenCompleted, as_step_law}
use Rattle.laws.specs.Runs.{UnlessEnded, run_keeps, always_short}
use Rattle.laws.specs.Sound.{StackConsistent, suffice}
use Rattle.laws.specs.StackLaws.{entered_stack, left_stack}
use Rattle.laws.specs.Thirteen.{Thirteen, thirteen_only, thirteen_passes}

-- ---- what is asked of a program

-- a call-free statement that completes keeps the number of cells, and of entity cells
abbrev pub SameNumbers : Entities → List ℕ → Does → Type 0
SameNumbers e cells (next p cells') = length cells' ≡ length cells
SameNumbers e cells (puts p entities') = length entities' ≡ length e.cells
SameNumbers e cells (calls f) = Unit {0}
SameNumbers e cells (returns a) = Unit {0}
SameNumbers e cells (refuses n) = Unit {0}
SameNumbers e cells (hands_over h) = Unit {0}

pub record KeepsNumbers (P : Program) : Type 0 where
  -- a file is as recorded only where lent cells are enough for it
  pub enough : (r : FileRecord) (lent : ℕ) → P.recorded r lent ≡ true → r.globals.count ≤ lent
  pub same_numbers : (p : ℤ) (e : Entities) (cells : List ℕ) → SameNumbers e cells (P.does p e cells)

-- ---- check 13 passes, in a state with the 31 frames that every context has

pub record Passing (P : Program) (c : Config) : Type 0 where
  pub frames : greatest_depth ≤ length c.state.frames
  pub thirteen : Thirteen P c

pub sound_passing : (P : Program) (c : Config) → greatest_depth ≤ length c.state.frames → sound P c ≡ true → Passing P c
sound_passing P c frames h = record { frames = frames; thirteen = thirteen_only P c h }

pub passing_sound : (P : Program) (c : Config) → Passing P c → sound P c ≡ true
passing_sound P c k = thirteen_passes P c k.thirteen

-- what 13 asks of the entered functions and the two depths
pub passing_stack : (P : Program) (c : Config) → Passing P c → StackConsistent P c.state
passing_stack P c k =
    record {
      room = k.frames;
      fit = in_range_fits c.state.settings k.thirteen.settings;
      depth_most = k.thirteen.depth;
      all = k.thirteen.present;
      sum = k.thirteen.sum;
      saved_most = k.thirteen.most;
    }

-- only the position, cells of the same number and entity cells of the same number change
pub advanced_passing : (P : Program) (c : Config) (p : ℤ) (cells entities : List ℕ) → length cells ≡ length c.cells → length entities ≡ length c.entities
    → Passing P c → Passing P (advanced c p cells entities)
unfolding entered_functions
advanced_passing P c p cells entities same same_entities k =
    let t = k.thirteen in
    record {
      frames = k.frames;
      thirteen =
          record {
            recorded = rw same t.recorded;
            store = t.store;
            entities = t.entities;
            entity_cells = omega (arith, same_entities, t.entity_cells);
            settings = t.settings;
            depth = t.depth;
            present = t.present;
            most = t.most;
            sum = t.sum;
          };
    }

-- ---- entries and leavings

module _ (P : Program) (keeps : KeepsNumbers P) where
  -- the local range of a function is among the lent cells
  range_there : (c : Config) (f : ℕ) → Passing P c
      → Rattle.definition.specs.Machine.present (function_of P f).start (function_of P f).locals (count_of c) ≡ true
      → Present (function_of P f).start (function_of P f).locals (length c.cells)
  range_there c f k h =
      present_more _ _ (count_of c) _ (keeps.enough c.state.file (length c.cells) k.thirteen.recorded)
      (present_true (function_of P f).start (function_of P f).locals (count_of c) h)

  pub entered_passing : (c : Config) (f : ℕ) (back : ℤ) → Passing P c → All (entry_conditions P f c) → Passing P (entered P f back c)
  unfolding entry_conditions entered
  entered_passing c f back k h =
      let d = function_of P f in
      let s = c.state in
      let t = k.thirteen in
      let stack = entered_stack P c f back (passing_stack P c k) h in
      let fits : s.saved + d.locals ≤ s.settings.saved = stack.saved_most in
      let source = present_source c.cells d.start d.locals (range_there c f k h.1.1.1.0) in
      let same : length (paste c.saved s.saved (drop d.start c.cells) d.locals) ≡ length c.saved =
      length-paste c.saved s.saved (drop d.start c.cells) d.locals (omega (arith, t.store, t.settings.saved_most)) source
      in
      record {
        frames = stack.room;
        thirteen =
            record {
              recorded = rw (length_copied (arguments_of d) c.cells) t.recorded;
              store = omega (arith, same, t.store);
              entities = t.entities;
              entity_cells = t.entity_cells;
              settings = t.settings;
              depth = stack.depth_most;
              present = stack.all;
              most = stack.saved_most;
              sum = stack.sum;
            };
      }

  pub left_passing : (c : Config) → Passing P c → All (leave_conditions P c) → Passing P (left P c)
  unfolding leave_conditions left
  left_passing c k h =
      let s = c.state in
      let d = function_of P s.function in
      let t = k.thirteen in
      let deep : 0 < s.depth = ltb-true 0 s.depth h.0 in
      let stack = left_stack P c (passing_stack P c k) deep in
      let fewer : d.locals ≤ s.saved = suffice P s deep (passing_stack P c k) in
      let source : d.locals ≤ length (drop (s.saved - d.locals) c.saved) =
      omega (arith, fewer, t.most, t.settings.saved_most, t.store, length-drop (s.saved - d.locals) c.saved)
      in
      let same : length (paste c.cells d.start (drop (s.saved - d.locals) c.saved) d.locals) ≡ length c.cells =
      length_pasted c.cells d.start (drop (s.saved - d.locals) c.saved) d.locals (range_there c s.function k h.1.1.0) source
      in
      record {
        frames = stack.room;
        thirteen =
            record {
              recorded = rw same t.recorded;
              store = t.store;
              entities = t.entities;
              entity_cells = t.entity_cells;
              settings = t.settings;
              depth = stack.depth_most;
              present = stack.all;
              most = stack.saved_most;
              sum = stack.sum;
            };
      }

  pub returned_passing : (c : Config) (a : ℕ) → Passing P c → All (return_conditions P a c) → Passing P (returned P a c)
  unfolding leave_conditions
  returned_passing c a k h =
      let cells = copied (successive 3 a 1) c.cells in
      left_passing (with_cells c cells) (advanced_passing P c c.state.pc cells c.entities (length_copied (successive 3 a 1) c.cells) refl k) h.1

  -- ---- statements

  step_as_passing : (x : Does) (c : Config) → SameNumbers (entities_of c) c.cells x → Passing P c → WhenCompleted (Passing P) (step_as P x c)
  unfolding step_as
  step_as_passing (next p cells) c same k = advanced_passing P c p cells c.entities same refl k
  step_as_passing (puts p entities) c same k = advanced_passing P c p c.cells entities refl same k
  step_as_passing (calls f) c same k =
      let back = c.state.pc +ℤ pos 1 in
      as_step_law (Passing P) (enter P f back c) (guarded (Passing P) (entry_conditions P f c) (entered P f back c) (entered_passing c f back k))
  step_as_passing (returns a) c same k =
      as_step_law (Passing P) (guard (return_conditions P a c) (returned P a c)) (guarded (Passing P) (return_conditions P a c) (returned P a c) (returned_passing c a k))
  step_as_passing (refuses n) c same k = tt
  step_as_passing (hands_over h) c same k = tt

  pub step_passing : (c : Config) → Passing P c → WhenCompleted (Passing P) (step P c)
  unfolding step
  step_passing c k =
      step_as_passing (P.does c.state.pc (entities_of c) c.cells) c (keeps.same_numbers c.state.pc (entities_of c) c.cells) k

-- 13 passes where a run stops without having ended
pub run_passing : (P : Program) → KeepsNumbers P → (n target : ℕ) (c : Config) → Passing P c
    → UnlessEnded (run_for P n target c).answer (Passing P (run_for P n target c).config)
run_passing P keeps n target c k =
    run_keeps P target (Passing P) (λ c' k'. always_short target (Passing P) (step P c') (step_passing P keeps c' k')) n c k
