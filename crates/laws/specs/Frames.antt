-- "a frame that is left becomes zeros again, and no operation touches the others": which frame each small step touches, along every list of calls.
use Rattle.std.specs.Prelude.{ℕ, zero, suc, ◌-◌, ◌≤◌, ◌<◌, ◌≡◌, refl, ◌≢◌, List, [], ◌∷◌, Bool, true, false, ℤ, pos, length, get_or, set, replicate, eqb}
use Rattle.std.proofs.Common.{◌∙◌, ap, arith, get_or-set_other}
use borrow.Author.Tests.{ltb-true, eqb-true, eqb-false}
use Rattle.std.proofs.Math.ListN.{length-set}
use Rattle.std.proofs.lemmas.List.{length-replicate}
use Rattle.std.proofs.Math.Seq.{get_or-set_same}
use Rattle.definition.specs.declared.Settings.{Settings}
use Rattle.definition.specs.declared.StackFrame.{StackFrame}
use Rattle.definition.specs.Checks.{Condition, Conditions, accepted}
use Rattle.definition.specs.File.{greatest_depth}
use Rattle.definition.specs.Machine.{Program, Config, zero_frame, copied, successive, with_cells}
use Rattle.definition.specs.Machine.{entry_conditions, entered, left}
use Rattle.definition.specs.Load.{load, program_of}
use Rattle.definition.specs.Calls.{Call}
use Rattle.definition.specs.Unpacked.{AllReady}
use Rattle.definition.specs.Log.{Log, Kind, entry, leaving, other}
use Rattle.definition.specs.Trace.{StepProperty, Always}
use Rattle.definition.specs.CheckLaws.{All}
use Rattle.definition.specs.Invariant.{Preserves, Inductive}
use Rattle.definition.proofs.Invariant.{always}
use Rattle.laws.specs.Starts.{load_starts, load_sizes}

abbrev pub frame_at : Config → ℕ → StackFrame
frame_at c i = get_or c.state.frames i zero_frame

-- no frame but that at i
abbrev pub Only : ℕ → Config → Config → Type 0
Only i c c' = (j : ℕ) → j ≢ i → frame_at c' j ≡ frame_at c j

-- an entry writes the frame at the depth, a leaving makes that below the depth zeros, and nothing else touches one
abbrev pub FramesBy : StepProperty
FramesBy (entry f back) c l c' = Only c.state.depth c c' × (frame_at c' c.state.depth ≡ record { instr_id = back; func_id = c.state.function })
FramesBy leaving c l c' = Only (c.state.depth - 1) c c' × (frame_at c' (c.state.depth - 1) ≡ record { instr_id = pos 0; func_id = 0 })
FramesBy other c l c' = c'.state.frames ≡ c.state.frames

-- what holds of every state that a list of calls reaches: there are 31 frames, and those from the depth on are zeros
pub record ZeroAbove (c : Config) : Type 0 where
  pub number : length c.state.frames ≡ greatest_depth
  pub zeros : (i : ℕ) → c.state.depth ≤ i → frame_at c i ≡ record { instr_id = pos 0; func_id = 0 }

all_zeros : (n i : ℕ) → get_or (replicate n zero_frame) i zero_frame ≡ zero_frame
all_zeros zero i = refl
all_zeros (suc n) zero = refl
all_zeros (suc n) (suc i) = all_zeros n i

-- a frame set to zeros is zeros, as are all that were
set_zero : (frames : List StackFrame) (i : ℕ) → get_or (set frames i zero_frame) i zero_frame ≡ zero_frame
set_zero [] i = refl
set_zero (x ∷ xs) zero = refl
set_zero (x ∷ xs) (suc i) = set_zero xs i

set_keeps_zero : (frames : List StackFrame) (i j : ℕ) → (i ≢ j → get_or frames i zero_frame ≡ zero_frame) → get_or (set frames j zero_frame) i zero_frame ≡ zero_frame
set_keeps_zero frames i j z = go (eqb i j) refl
  where
    go : (b : Bool) → eqb i j ≡ b → get_or (set frames j zero_frame) i zero_frame ≡ zero_frame
    go true e = rw (eqb-true i j e) (set_zero frames j)
    go false e = get_or-set_other frames j i zero_frame zero_frame (eqb-false i j e) ∙ z (eqb-false i j e)

-- in any state, also one that a host made up
pub entry_touches : (P : Program) (f : ℕ) (back : ℤ) (c : Config) → Only c.state.depth c (entered P f back c)
unfolding entered
entry_touches P f back c j ne = get_or-set_other c.state.frames c.state.depth j (record { instr_id = back; func_id = c.state.function }) zero_frame ne

pub leaving_touches : (P : Program) (c : Config) → Only (c.state.depth - 1) c (left P c) × (frame_at (left P c) (c.state.depth - 1) ≡ zero_frame)
unfolding left
leaving_touches P c = (λ j ne. get_or-set_other c.state.frames (c.state.depth - 1) j zero_frame zero_frame ne, set_zero c.state.frames (c.state.depth - 1))

-- the invariant: beside that, the greatest depth that is set is at most 31, which the settings of a load are
record ZeroAndBound (c : Config) : Type 0 where
  number : length c.state.frames ≡ greatest_depth
  zeros : (i : ℕ) → c.state.depth ≤ i → frame_at c i ≡ record { instr_id = pos 0; func_id = 0 }
  bound : c.state.settings.depth ≤ greatest_depth

module _ (file : List ℕ) where
  abbrev P : Program
  P = program_of file

  abbrev Preserved : Kind → Config → Log → Config → Type 0
  Preserved κ c l c' = Preserves file (λ c l. ZeroAndBound c) FramesBy κ c l c'

  entered_frames : (c : Config) (l : Log) (f : ℕ) (back : ℤ) → ZeroAndBound c → All (entry_conditions P f c) → Preserved (entry f back) c l (entered P f back c)
  unfolding entry_conditions entered
  entered_frames c l f back k h =
      let s = c.state in
      let frame : StackFrame = record { instr_id = back; func_id = s.function } in
      let shallow : s.depth < s.settings.depth = ltb-true s.depth s.settings.depth h.1.0 in (
        (entry_touches P f back c, get_or-set_same s.frames s.depth frame zero_frame (omega (arith, k.number, k.bound))),
        record {
          number = length-set s.frames s.depth frame ∙ k.number;
          zeros = λ i le. entry_touches P f back c i (λ e. omega arith) ∙ k.zeros i (omega arith);
          bound = k.bound;
        },
      )

  left_frames : (c : Config) (l : Log) → ZeroAndBound c → Preserved leaving c l (left P c)
  unfolding left
  left_frames c l k =
      let s = c.state in (
        leaving_touches P c,
        record {
          number = length-set s.frames (s.depth - 1) zero_frame ∙ k.number;
          zeros = λ i le. set_keeps_zero s.frames i (s.depth - 1) (λ ne. k.zeros i (omega arith));
          bound = k.bound;
        },
      )

  frames_inductive : Inductive file (λ c l. ZeroAndBound c) FramesBy
  frames_inductive =
      record {
        plain = λ c l p cells entities k keeps puts. (refl, record { number = k.number; zeros = k.zeros; bound = k.bound });
        writing = λ c l cells k keeps. (refl, record { number = k.number; zeros = k.zeros; bound = k.bound });
        lending = λ c l entities k. (refl, record { number = k.number; zeros = k.zeros; bound = k.bound });
        entering = entered_frames;
        returning = λ c l a k h. left_frames (with_cells c (copied (successive 3 a 1) c.cells)) l (record { number = k.number; zeros = k.zeros; bound = k.bound });
        leave_one = λ c l k h. left_frames c l k;
      }

pub frames_by_law : (s : Settings) (file : List ℕ) (n : ℤ) (cells saved entities : List ℕ) (c : Config) → load s file n cells saved entities ≡ accepted c → (calls : List Call) → AllReady file calls
    → Always file FramesBy (λ c' l. ZeroAbove c') c [] calls
frames_by_law s file n cells saved entities c accepts calls ready =
    let started = load_starts s file n cells saved entities c accepts in
    always file (λ c' l. ZeroAndBound c') FramesBy (frames_inductive file) (λ c' l. ZeroAbove c') (λ c' l k. record { number = k.number; zeros = k.zeros }) c [] calls ready
    (record {
      number = ap length started.frames ∙ length-replicate greatest_depth zero_frame;
      zeros = λ i le. ap (λ (fs : List StackFrame). get_or fs i zero_frame) started.frames ∙ all_zeros greatest_depth i;
      bound = rw started.settings (load_sizes s file n cells saved entities c accepts).settings.depth_most;
    })
