-- Runs from the buffer: several common statements, the bounds, and the room in the buffer. Assumes nothing.
use Rattle.std.specs.Prelude.{◌≢◌, ℕ, zero, suc, ◌+◌, ◌*◌, ◌<◌, ◌≤◌, List, length, true, false, Ok, None, ℤ, pos, negsuc}
use Rattle.std.proofs.Common.{◌≡◌, refl, sym, ap, ◌∙◌, subst, arith, ltb-true, true≢false}
use Rattle.std.proofs.lemmas.Bool.{lt-leb, le-leb}
use Rattle.definition.specs.declared.FileRecord.{FileRecord}
use Rattle.definition.specs.Checks.{refused, accepted, guard}
use Rattle.definition.specs.File.{Contents, contents_at, with_statements, unpacked_statements, file_of}
use Rattle.definition.specs.Cells.{typing_of}
use Rattle.definition.specs.Statements.{Entities, Does, does_at}
use Rattle.definition.specs.declared.RunAnswer.TheVariants as answers
use Rattle.definition.specs.Machine as machine
use Rattle.definition.specs.Machine.{run_for, Config, Program, with_unpacked, step_as, step}
use Rattle.definition.specs.Load.{program_with, program_of}
use Rattle.definition.specs.Operations.{natural, below, sound, run}
use Rattle.definition.specs.Answers.{statement_outcome}
use Rattle.definition.proofs.CheckLaws.{accepted_all}
use Rattle.definition.proofs.UnpackedLaws.{sound_kept}
use Rattle.functions.specs.Laws.{lump_fitting}
use Rattle.execution.specs.Lent.{entities_at}
use Rattle.progs.specs.declared.ExecutionContext.{ExecutionContext}
use Rattle.progs.specs.Contexts.{config, Loaded}
use Rattle.progs.proofs.StateLaws.{passed}
use Rattle.server.specs.declared.Bounds.{Bounds}
use Rattle.server.specs.declared.Ran.{Ran}
use Rattle.server.specs.Stepping.{stepping_of, ran_as, ran_of, bounds_conditions, bounds_of}
use Rattle.server.proofs.RunLaws.{RunLeft, run_start, run_spent, run_again}
use Rattle.server.proofs.HostLaws.{run_13, run_37, run_outside, run_inside}
use Rattle.second_engine.specs.Quickly.{AllFloats, Goes, GoesOn}
use Rattle.second_engine.proofs.StepLaws.{same_does}

-- ---- common statements

-- the context at a position
abbrev pub moved_to : ExecutionContext → ℤ → ExecutionContext
moved_to x p =
    record {
      file = x.file;
      settings = x.settings;
      pc = p;
      current_function = x.current_function;
      depth = x.depth;
      saved = x.saved;
      entity_count = x.entity_count;
      frames = x.frames;
    }

-- several statements that do nothing but go on: none of them ends the run, since none changes the depth
module _ (P : Program) (limit target : ℕ) (c₀ : Config) (x : ExecutionContext) (apart : x.depth ≢ target) (saved entities : List ℕ) (q : ℤ) (new : List ℕ) where
  abbrev does_here : ℤ → List ℕ → Does
  does_here p cells = P.does p (entities_at x.entity_count entities) cells

  several : (n count : ℕ) (p : ℤ) (cells : List ℕ) → count + n ≤ limit → RunLeft P limit target c₀ (config (moved_to x p) cells saved entities) count
      → Goes does_here n p cells q new → RunLeft P limit target c₀ (config (moved_to x q) new saved entities) (count + n)
  unfolding step step_as
  several zero count p cells most g (there, same) =
      let sum : count + 0 ≡ count = omega arith in
      rw (sum, ← there, ← same) g
  several (suc n) count p cells most g (p', (cells', (d, rest))) =
      let here : Config = config (moved_to x p) cells saved entities in
      let goes : stepping_of (Ok None) (moved_to x p') cells' saved entities ≡ statement_outcome here (step P here) = rw d refl in
      let one = run_again P limit target c₀ here count g (omega arith) (Ok None) (moved_to x p') cells' saved entities goes refl apart in
      let sum : count + suc n ≡ count + 1 + n = omega arith in
      rw sum (several n (count + 1) p' cells' (omega arith) one rest)

  goes_left : (n count : ℕ) (cells : List ℕ) → count + n ≤ limit → RunLeft P limit target c₀ (config x cells saved entities) count
      → GoesOn does_here n x.pc cells q new → RunLeft P limit target c₀ (config (moved_to x q) new saved entities) (count + n)
  goes_left n count cells most g goes = several n count x.pc cells most g goes.goes

-- ---- the program whose statements come from a buffer

module _ (file buffer : List ℕ) where
  abbrev P : Program
  P = with_unpacked (program_of file) buffer

  -- common statements that were done are so many fewer of a run's
  module _ (r : FileRecord) (h : Loaded file r) (untyped : ℕ) (all : (f : List ℕ) → AllFloats (typing_of (contents_at r f)) untyped) (n : ℕ) (p : ℤ) (cells : List ℕ) (q : ℤ) (new : List ℕ) where
    pub went_left : (limit target : ℕ) (c₀ : Config) (x : ExecutionContext) → x.depth ≢ target → (saved entities : List ℕ) (count : ℕ) → p ≡ x.pc
        → RunLeft P limit target c₀ (config x cells saved entities) count → count + n ≤ limit
        → ((k : Contents) (e : Entities) → k.statements ≡ unpacked_statements buffer r.statements.count → AllFloats (typing_of k) untyped → GoesOn (λ o cs. does_at k o e cs) n p cells q new)
        → RunLeft P limit target c₀ (config (moved_to x q) new saved entities) (count + n)
    went_left limit target c₀ x apart saved entities count at left most g =
        let e : Entities = entities_at x.entity_count entities in
        let goes = subst (λ (does : ℤ → Entities → List ℕ → Does). GoesOn (λ o cs. does o e cs) n p cells q new) (same_does file buffer r h) (g (with_statements (contents_at r file) (unpacked_statements buffer r.statements.count)) e refl (all file)) in
        goes_left P limit target c₀ x apart saved entities q new n count cells most left (rw at at goes)

  -- ---- a whole run, by the tests that decide it

  module _ (target limit : ℤ) (x : ExecutionContext) (cells saved entities : List ℕ) where
    abbrev here : Config
    here = config x cells saved entities

    pub unpacked_13 : sound (program_of file) here ≡ false → (r : Ran) → r ≡ ran_as x (answers.Refused 13) 0 → ran_of r cells saved entities ≡ run P target limit here
    unpacked_13 s r e = run_13 P target limit x cells saved entities r (sound_kept _ _ _ ∙ s) e

    module _ (s : sound (program_of file) here ≡ true) where
      s' : sound P here ≡ true
      s' = sound_kept _ _ _ ∙ s

      same : x.file ≡ file_of file
      same = (passed file cells saved entities x s).loaded.same

      pub unpacked_37 : length buffer < 4 * x.file.statements.count → (r : Ran) → r ≡ ran_as x (answers.Refused 37) 0 → ran_of r cells saved entities ≡ run P target limit here
      unfolding program_with
      unpacked_37 h r e = run_37 P target limit x cells saved entities s' r (lt-leb (4 * (file_of file).statements.count) (length buffer) (rw same at h)) e

      module _ (h : 4 * x.file.statements.count ≤ length buffer) where
        room : P.room ≡ true
        unfolding program_with
        room = le-leb (4 * (file_of file).statements.count) (length buffer) (rw same at h)

        pub unpacked_outside : (n : ℕ) → refused n ≡ guard (bounds_conditions target limit x.settings.limit x.depth) (bounds_of target limit)
            → (r : Ran) → r ≡ ran_as x (answers.Refused n) 0 → ran_of r cells saved entities ≡ run P target limit here
        unpacked_outside n q r e = run_outside P target limit x cells saved entities s' room n q r e

        pub unpacked_inside : (b : Bounds) → accepted b ≡ guard (bounds_conditions target limit x.settings.limit x.depth) (bounds_of target limit)
            → (o : machine.Ran) → o ≡ run_for P b.limit b.target here → o ≡ run P target limit here
        unpacked_inside b q o e = run_inside P target limit x cells saved entities s' room b q o e

-- ---- a run starts above its target

apart_below : (target : ℤ) (depth down : ℕ) → below target depth ≡ true → down ≡ natural target → depth ≢ down
apart_below (pos i) depth down b d same = let l = ltb-true i depth b in omega (arith, l, d, same)
apart_below (negsuc i) depth down b d same = absurd (true≢false (sym b))

pub bounds_apart : (target limit : ℤ) (depth most : ℕ) (b : Bounds) → accepted b ≡ guard (bounds_conditions target limit most depth) (bounds_of target limit) → depth ≢ b.target
bounds_apart target limit depth most b e =
    let h = accepted_all (bounds_conditions target limit most depth) (bounds_of target limit) b (sym e) in
    apart_below target depth b.target h.0.1.0 (ap (λ (z : Bounds). z.target) (sym h.1))

pub few_statements : (file : List ℕ) (r : FileRecord) → Loaded file r → r.statements.count < 2147483648
few_statements file r h = (lump_fitting 8 (length file) r.statements h.lumps.statements).count

-- ---- what the check takes, by function

pub ruleset runs = (run_start, run_spent, run_again, few_statements)

pub ruleset whole_runs = (unpacked_13, unpacked_37, passed, few_statements)
