-- After an accepted load the row of an operation alone decides whether it is refused, as long as the host lends entity cells enough: so 13 takes no
-- acceptance away, and a run is begun, a cell read or written, a function entered, a handed-over statement carried on and the program written from wherever
-- the row's conditions hold.
use Rattle.std.specs.Prelude.{ℕ, suc, ◌+◌, ◌≡◌, refl, List, [], ◌∷◌, ◌++◌, ℤ, pos, ◌+ℤ◌, length, get_or, set}
use Rattle.std.proofs.Common.{subst, ◌∙◌}
use Rattle.std.proofs.Math.Logic.{inr}
use Rattle.std.proofs.Math.Bool.{true}
use Rattle.definition.specs.declared.Settings.{Settings}
use Rattle.definition.specs.declared.FileRecord.{FileRecord}
use Rattle.definition.specs.declared.RunAnswer.TheVariants.{Refused}
use Rattle.definition.specs.Checks.{Condition, Conditions, ◌otherwise◌, judge, Checked, accepted, guard}
use Rattle.definition.specs.File.{file_of}
use Rattle.definition.specs.Statements.{place_of}
use Rattle.definition.specs.Machine.{Program, with_unpacked, Config, entities_of, count_of, with_cells, advanced, entry_conditions, entered, step, Ran, run_for}
use Rattle.definition.specs.Load.{load, program_with, program_of}
use Rattle.definition.specs.Operations.{sound, natural, below, permitted, is_handed_over, host_enter, statement, run_conditions, run, carry_on_conditions, carry_on, raw_read, raw_write, pairs_conditions, pairs_written, write_all}
use Rattle.definition.specs.Written.{room_conditions, placed, image, write_conditions, write_file}
use Rattle.definition.specs.Calls.{Call}
use Rattle.definition.specs.Unpacked.{buffer_after, unpack, AllReady}
use Rattle.definition.proofs.UnpackedLaws.{sound_kept}
use Rattle.definition.specs.Trace.{Always}
use Rattle.definition.specs.CheckLaws.{All, FailsFirst, WhenAccepted}
use Rattle.definition.proofs.CheckLaws.{judge_all, judge_first}
use Rattle.definition.specs.Invariant.{room_in}
use Rattle.definition.proofs.Invariant.{always}
use Rattle.laws.specs.Entities.{Suffice, LendEnough, while_enough}
use Rattle.laws.specs.Sound.{Consistent, consistent_sound, consistent_inductive, loaded_consistent, load_suffices, AnyStep}
use Rattle.laws.specs.Exactly.{Exactly, exactly}

-- what a run gives, exactly by these conditions
pub record RunExactly (cs : Conditions) (c : Config) (begun x : Ran) : Type 0 where
  pub begins : All cs → x ≡ begun
  pub refuses : (n : ℕ) → FailsFirst (suc n) cs → x ≡ record { answer = Refused (suc n); count = 0; config = c }

module _ (file : List ℕ) (c : Config) where
  abbrev P : Program
  P = program_of file

  -- "28: limit outside 1 to 99,999" (R-11: to the greatest run limit of the settings); "29: target below 0, or not below the depth"
  abbrev pub run_row : ℤ → ℤ → Conditions
  run_row target limit = (permitted limit c.state.settings.limit otherwise 28) ∷ (below target c.state.depth otherwise 29) ∷ []

  -- "15: cell negative or not below the count"
  abbrev pub raw_row : ℤ → Conditions
  raw_row a = (below a (file_of file).globals.count otherwise 15) ∷ []

  -- "14, 7, then 27: that statement, with the cells as they now are, would not be handed over"
  abbrev pub carry_on_row : Conditions
  carry_on_row = P.fetching c.state.pc ++ ((is_handed_over (P.does c.state.pc (entities_of c) c.cells) otherwise 27) ∷ [])

  -- R-12: "An unpack buffer shorter than four numbers a statement is refused 37, at unpacking and at each run, after 13 and before 28"
  abbrev pub unpack_row : List ℕ → Conditions
  unpack_row buffer = ((P.unpacked buffer).room otherwise 37) ∷ []

  abbrev place : ℤ → ℕ
  place f = place_of (length P.functions) f

  -- each operation from c is accepted, or refused, by the conditions of its own row of 01's table
  pub record RowDecides : Type 0 where
    pub enters : (f : ℤ) → Exactly (entry_conditions P (place f) c) (entered P (place f) c.state.pc c) (host_enter P f c)
    pub steps : statement P c ≡ step P c
    pub runs : (target limit : ℤ) → RunExactly (run_row target limit) c (run_for P (natural limit) (natural target) c) (run P target limit c)
    pub unpacks : (buffer : List ℕ) → Exactly (unpack_row buffer) (buffer_after file buffer) (unpack file buffer c)
    pub runs_unpacked_law : (buffer : List ℕ) (target limit : ℤ)
        → RunExactly (((P.unpacked buffer).room otherwise 37) ∷ run_row target limit) c (run_for (with_unpacked P buffer) (natural limit) (natural target) c) (run (with_unpacked P buffer) target limit c)
    pub carries : Exactly carry_on_row (advanced c (c.state.pc +ℤ pos 1) c.cells c.entities) (carry_on P c)
    pub reads : (a : ℤ) → Exactly (raw_row a) (get_or c.cells (natural a) 0) (raw_read P a c)
    pub writes : (a : ℤ) (v : ℕ) → Exactly (raw_row a) (with_cells c (set c.cells (natural a) v)) (raw_write P a v c)
    pub writes_all_law : (numbers : List ℤ) → Exactly (pairs_conditions (file_of file).globals.count numbers) (with_cells c (pairs_written numbers c.cells)) (write_all P numbers c)
    -- R-6: 34 alone, so in the middle of a run too the same file is written
    pub writes_file : (output : List ℕ) → Exactly (room_conditions (image c.state.settings.check_number file) (length output)) (placed (image c.state.settings.check_number file) output) (write_file file output c)

  module _ (k : Consistent file c) (lent : Suffice file c) where
    passes : sound P c ≡ true
    passes = consistent_sound file c k lent

    without_13 : {A : Type 0} (cs : Conditions) (a : A) → Exactly cs a (guard ((sound P c otherwise 13) ∷ cs) a)
    unfolding guard judge
    without_13 cs a = rw passes (exactly cs a)

    run_decides : (target limit : ℤ) → RunExactly (run_row target limit) c (run_for P (natural limit) (natural target) c) (run P target limit c)
    unfolding run run_conditions program_with
    run_decides target limit =
        record {
          begins = λ h. rw (judge_all (run_conditions P target limit c) (passes, (refl, h)));
          refuses = λ n f. rw (judge_first (run_conditions P target limit c) (suc n) (inr (passes, inr (refl, f))));
        }

    unpacked_decides : (buffer : List ℕ) (target limit : ℤ)
        → RunExactly (((P.unpacked buffer).room otherwise 37) ∷ run_row target limit) c (run_for (with_unpacked P buffer) (natural limit) (natural target) c) (run (with_unpacked P buffer) target limit c)
    unfolding run run_conditions
    unpacked_decides buffer target limit =
        let Q = with_unpacked P buffer in
        let sound_here : sound Q c ≡ true = sound_kept P buffer c ∙ passes in
        record {
          begins = λ h. rw (judge_all (run_conditions Q target limit c) (sound_here, h));
          refuses = λ n f. rw (judge_first (run_conditions Q target limit c) (suc n) (inr (sound_here, f)));
        }

    -- the file's count of cells, for the count that the state records
    by_count : {A : Type 0} (cs : ℕ → Conditions) (v : A) (x : Checked A) → Exactly (cs (count_of c)) v x → Exactly (cs (file_of file).globals.count) v x
    by_count cs v x e = subst (λ (r : FileRecord). Exactly (cs r.globals.count) v x) k.recorded e

    decides : RowDecides
    unfolding host_enter statement unpack carry_on carry_on_conditions raw_read raw_write write_all write_file write_conditions
    decides =
        record {
          enters = λ f. without_13 _ _;
          steps = rw passes;
          runs = run_decides;
          unpacks = λ buffer. without_13 _ _;
          runs_unpacked_law = unpacked_decides;
          carries = without_13 _ _;
          reads = λ a. by_count (λ n. (below a n otherwise 15) ∷ []) _ _ (without_13 _ _);
          writes = λ a v. by_count (λ n. (below a n otherwise 15) ∷ []) _ _ (without_13 _ _);
          writes_all_law = λ numbers. by_count (λ n. pairs_conditions n numbers) _ _ (without_13 _ _);
          writes_file = λ output. without_13 _ _;
        }

pub row_always_decides : (s : Settings) (file : List ℕ) (n : ℤ) (cells saved entities : List ℕ) (c : Config) → load s file n cells saved entities ≡ accepted c
    → (calls : List Call) → AllReady file calls
    → Always file AnyStep (λ c' l. Suffice file c' → RowDecides file c') c [] calls
row_always_decides s file n cells saved entities c accepts calls ready =
    always file (λ c' l. Consistent file c') AnyStep (consistent_inductive file) (λ c' l. Suffice file c' → RowDecides file c') (λ c' l k lent. decides file c' k lent)
    c [] calls ready (subst (WhenAccepted (Consistent file)) accepts (loaded_consistent s file n cells saved entities))

-- so in a list in which every lending is of entity cells enough, or in one without lendings, it always decides
pub row_decides_lent : (s : Settings) (file : List ℕ) (n : ℤ) (cells saved entities : List ℕ) (c : Config) → load s file n cells saved entities ≡ accepted c
    → (calls : List Call) → AllReady file calls → LendEnough (room_in file c) calls
    → Always file AnyStep (λ c' l. RowDecides file c') c [] calls
row_decides_lent s file n cells saved entities c accepts calls ready lent =
    while_enough file AnyStep (λ c' l. Suffice file c' → RowDecides file c') (λ c' l. RowDecides file c') (λ c' l decides enough. decides enough)
    c [] calls ready (load_suffices s file n cells saved entities c accepts) lent (row_always_decides s file n cells saved entities c accepts calls ready)
