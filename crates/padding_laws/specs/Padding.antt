-- THE LAW OF DOCUMENT 02, R-7: "Given 64 lent cells, a statement that used to complete still does, from the same old cells, saved store, entity cells and
-- state but for what that records of the file, with the same results, and leaves the added cells alone."
use Rattle.std.specs.Prelude.{ℕ, ◌≤◌, ◌≡◌, List, Bool, false, ◌&&◌, take, drop}
use Rattle.std.proofs.Math.Path.{refl, sym}
use Rattle.std.proofs.Common.{◌∙◌, ap, subst, arith}
use Rattle.std.proofs.Math.Bool.{true}
use borrow.Author.Tests.{leb-true}
use Rattle.std.proofs.Math.ListN.{length}
use Rattle.std.proofs.Math.Dec.{leb}
use Rattle.definition.specs.declared.FileRecord.{FileRecord}
use Rattle.definition.specs.declared.Handover.{Handover}
use Rattle.definition.specs.File.{check_number, header_length, longest_file, least_cells, least_to_pad, file_of, contents_of}
use Rattle.definition.proofs.CheckLaws.{and_left, and_right}
use Rattle.definition.specs.Statements.{does_at}
use Rattle.definition.specs.Machine.{Program, Config, entities_of, count_of, Stepped, completed, handed_step, step}
use Rattle.definition.specs.Load.{header_conditions, recorded_in, program_with, program_of}
use Rattle.definition.specs.Operations.{entered_functions, sound, step_if, statement}
use Rattle.definition.proofs.RecordLaws.{length_globals}
use Rattle.definition.specs.Written.{padded_file}
use Rattle.functions.specs.Laws as functions
use Rattle.laws.specs.Sound.{same_file_law}
use Rattle.laws.specs.StackLaws.{present_alike, locals_alike}
use Rattle.laws.specs.Thirteen.{Thirteen, thirteen_passes, thirteen_only, Recorded, recorded_passes, recorded_only}
use Rattle.writing_laws.specs.Loads.{header_loads}
use Rattle.padding_laws.specs.Cells.{Agree}
use Rattle.padding_laws.specs.Effects.{Carries}
use Rattle.padding_laws.specs.Statements.{does_carried}
use Rattle.padding_laws.specs.Transfers.{recorded_as, with_file, Completes, Follows, Fits, step_follows}
use Rattle.padding_laws.specs.PaddedFile.{added_cells, padded_contents, padded_eight, padded_says, padded_count, padded_entities, padded_least}

-- the program of a file that the padding program admits: "Installed ones are run once through a padding program, which alone still admits them"
abbrev pub installed : List ℕ → Program
installed file = program_with least_to_pad (file_of file) file

-- c with a file, and d with what it was padded to
pub record Padded (file : List ℕ) (c d : Config) : Type 0 where
  -- "Given 64 lent cells"; a file of more has its own lent
  pub lent : least_cells ≤ length d.cells
  pub enough : (file_of file).globals.count ≤ length d.cells
  -- "the same old cells, saved store, entity cells"
  pub old : take (file_of file).globals.count d.cells ≡ take (file_of file).globals.count c.cells
  pub saved : d.saved ≡ c.saved
  pub entities : d.entities ≡ c.entities
  -- "and state but for what that records of the file"
  pub state : d.state ≡ recorded_as (file_of (padded_file file)) c.state

-- "still does .. with the same results, and leaves the added cells alone": of a statement after which c is left, and that with the padded file was to be done from d
pub record Completed (file : List ℕ) (c d : Config) (s : Stepped) : Type 0 where
  pub after : Config
  pub completes : s ≡ completed after
  pub results : Padded file c after
  pub added : drop (file_of file).globals.count after.cells ≡ drop (file_of file).globals.count d.cells

module _ (file : List ℕ) (short : length (padded_file file) ≤ longest_file) where
  abbrev r : FileRecord
  r = file_of (padded_file file)

  functions_alike : (program_of (padded_file file)).functions ≡ (installed file).functions
  unfolding program_with
  functions_alike = rw (padded_says file) refl

  -- ---- check 13

  -- what it asks of the padded file, beside so many lent cells
  padded_recorded : (r₀ : FileRecord) (lent lent' : ℕ) → Recorded least_to_pad file r₀ lent → least_cells ≤ lent' → (file_of file).globals.count ≤ lent'
      → recorded_in least_cells (padded_file file) r lent' ≡ true
  unfolding header_conditions
  padded_recorded r₀ lent lent' k h h' =
      let own : r₀ ≡ file_of file = functions.same_file_law r₀ (file_of file) k.same in
      let header = header_loads check_number (padded_contents file) (padded_eight file) short in
      let lengths : (leb header_length r.length && leb r.length longest_file) ≡ true = header.0 in
      let most : (file_of file).globals.count ≤ 32768 = rw own at k.most in
      let per_entity : 105 ≤ (file_of file).entityfields = rw own at k.per_entity in
      recorded_passes least_cells (padded_file file) r lent'
      (record {
        same = same_file_law r;
        shortest = leb-true header_length r.length (and_left _ _ lengths);
        longest = leb-true r.length longest_file (and_right (leb header_length r.length) _ lengths);
        lumps = header.1.1.1.0;
        fewest = padded_least file;
        most = omega (arith, padded_count file, length_globals file);
        per_entity = rw (padded_entities file) per_entity;
        signed = rw (padded_entities file, ← own) k.signed;
        enough = omega (arith, padded_count file, length_globals file);
      })

  module _ (c : Config) (cells' : List ℕ) (lent : least_cells ≤ length cells') (enough : (file_of file).globals.count ≤ length cells')
      (thirteen : Thirteen (installed file) c) where
    recorded_before : Recorded least_to_pad file c.state.file (length c.cells)
    unfolding program_with
    recorded_before = recorded_only least_to_pad file c.state.file (length c.cells) thirteen.recorded

    own_file : c.state.file ≡ file_of file
    own_file = functions.same_file_law c.state.file (file_of file) recorded_before.same

    sound_padded : sound (program_of (padded_file file)) (with_file r cells' c) ≡ true
    unfolding program_with entered_functions
    sound_padded =
        let P = installed file in
        let Q = program_of (padded_file file) in
        thirteen_passes Q (with_file r cells' c)
        (record {
          recorded = padded_recorded c.state.file (length c.cells) (length cells') recorded_before lent enough;
          store = thirteen.store;
          entities = thirteen.entities;
          entity_cells = rw (padded_entities file, ← own_file) thirteen.entity_cells;
          settings = thirteen.settings;
          depth = thirteen.depth;
          present = present_alike P Q functions_alike (entered_functions c.state) ∙ thirteen.present;
          most = thirteen.most;
          sum = thirteen.sum ∙ sym (locals_alike P Q functions_alike (entered_functions c.state));
        })

    -- ---- the step, where it is done from the same old cells

    count_own : count_of c ≡ length (contents_of file).globals
    count_own = ap (λ (x : FileRecord). x.globals.count) own_file ∙ sym (length_globals file)

    fits : Fits (length (contents_of file).globals) c cells'
    fits =
        record {
          own = count_own;
          least = omega (arith, recorded_before.fewest, count_own);
          lent = omega (arith, recorded_before.enough, count_own);
          lent' = omega (arith, length_globals file);
          store = thirteen.store;
          saved = omega (arith, thirteen.most, thirteen.settings.saved_most);
        }

    step_padded : Agree (length (contents_of file).globals) cells' c.cells cells'
        → Follows (length (contents_of file).globals) r cells' (step (installed file) c) (step (program_of (padded_file file)) (with_file r cells' c))
    unfolding step program_with
    step_padded same =
        let n = length (contents_of file).globals in
        let k' = contents_of (padded_file file) in
        let wider : n ≤ r.globals.count = omega (arith, padded_count file, length_globals file) in
        let carried : Carries n cells' (does_at (contents_of file) c.state.pc (entities_of c) c.cells) (does_at k' c.state.pc (entities_of c) cells') =
        rw (padded_says file) (does_carried (contents_of file) (added_cells file) c.state.pc (entities_of c) same) in
        step_follows (installed file) (program_of (padded_file file)) functions_alike n r wider c cells' fits same
        (does_at (contents_of file) c.state.pc (entities_of c) c.cells) (does_at k' c.state.pc (entities_of c) cells') carried

  -- ---- the statement

  statement_follows : (c d : Config) → Padded file c d
      → Follows (length (contents_of file).globals) r d.cells (statement (installed file) c) (statement (program_of (padded_file file)) d)
  unfolding statement
  statement_follows c d h = go (sound (installed file) c) refl
    where
      Q : Program
      Q = program_of (padded_file file)

      as_padded : d ≡ with_file r d.cells c
      as_padded = λ i. record { state = h.state i; cells = d.cells; saved = h.saved i; entities = h.entities i }

      same : Agree (length (contents_of file).globals) d.cells c.cells d.cells
      same = record { old = rw (length_globals file) h.old; added = refl; many = refl }

      go : (b : Bool) → sound (installed file) c ≡ b
          → Follows (length (contents_of file).globals) r d.cells (step_if b (step (installed file) c)) (step_if (sound Q d) (step Q d))
      go true e =
          let thirteen = thirteen_only (installed file) c e in
          let passes : sound Q d ≡ true = ap (sound Q) as_padded ∙ sound_padded c d.cells h.lent h.enough thirteen in
          let steps : step Q (with_file r d.cells c) ≡ step Q d = ap (step Q) (sym as_padded) in
          rw passes
          (subst (λ (s : Stepped). Follows (length (contents_of file).globals) r d.cells (step (installed file) c) s) steps
          (step_padded c d.cells h.lent h.enough thirteen same))
      go false e = tt

  results_of : (c c' d : Config) (s : Stepped) → Padded file c d → Completes (length (contents_of file).globals) r d.cells c' s → Completed file c' d s
  results_of c c' d s h m =
      record {
        after = with_file r m.cells' c';
        completes = m.completes;
        results =
            record {
              lent = rw m.agree.many h.lent;
              enough = rw m.agree.many h.enough;
              old = subst (λ (n : ℕ). take n m.cells' ≡ take n c'.cells) (length_globals file) m.agree.old;
              saved = refl;
              entities = refl;
              state = refl;
            };
        added = subst (λ (n : ℕ). drop n m.cells' ≡ drop n d.cells) (length_globals file) m.agree.added;
      }

  -- "a statement that used to complete still does": for every file whose padded file isn't too long, and every statement of it
  pub statement_padded : (c c' d : Config) → Padded file c d → statement (installed file) c ≡ completed c'
      → Completed file c' d (statement (program_of (padded_file file)) d)
  statement_padded c c' d h e =
      results_of c c' d (statement (program_of (padded_file file)) d) h
      (subst (λ (s : Stepped). Follows (length (contents_of file).globals) r d.cells s (statement (program_of (padded_file file)) d)) e (statement_follows c d h))

  -- and one that was handed over still is
  pub statement_handed : (c d : Config) (x : Handover) → Padded file c d → statement (installed file) c ≡ handed_step x
      → statement (program_of (padded_file file)) d ≡ handed_step x
  statement_handed c d x h e =
      subst (λ (s : Stepped). Follows (length (contents_of file).globals) r d.cells s (statement (program_of (padded_file file)) d)) e (statement_follows c d h)
