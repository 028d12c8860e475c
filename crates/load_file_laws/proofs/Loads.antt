-- "Given what 12 and 13 ask, such a file always loads": of any seed, so of every one that is not 0.
use Rattle.std.specs.Prelude.{ℕ, ◌+◌, ◌*◌, ◌≤◌, ◌≡◌, refl, List, [], ◌∷◌, ◌++◌, pos, length}
use Rattle.std.proofs.Math.Path.{sym}
use Rattle.std.proofs.Common.{ap, ◌∙◌}
use native.Mathlib.Omega.{arith}
use Rattle.definition.specs.declared.Statement.{Statement}
use Rattle.definition.specs.declared.Settings.{Settings}
use Rattle.definition.specs.Checks.{accepted}
use Rattle.definition.specs.File.{check_number, file_of, contents_of}
use Rattle.definition.specs.Load.{loaded, load}
use Rattle.definition.specs.LoadLaws.{InRange}
use Rattle.definition.specs.Written.{layout, written, image}
use Rattle.laws.specs.Loadable.{Every, StatementIs, Loadable, loadable}
use Rattle.writing_laws.specs.Written.{version_written, check_written, file_written, contents_written}
use Rattle.writing_laws.specs.Loads.{layout_fits}
use Rattle.load_files.specs.Draws.{after, drawn}
use Rattle.load_files.specs.LoadFile.{drawn_statement, return, contents_for, bytes_for}
use Rattle.load_files.specs.Laws.{layout_for, eight_for, layout_for_law, length_file}
use Rattle.load_file_laws.specs.Drawn.{Arithmetic, all_arithmetic}
use Rattle.load_file_laws.specs.Loads.{Lent}

known_drawn : (xs : List Statement) → Every Arithmetic xs → Every StatementIs (xs ++ return ∷ [])
known_drawn [] h = (omega arith, tt)
known_drawn (x ∷ xs) h = (h.0.known, known_drawn xs h.1)

module _ (seed n : ℕ) where
  pub says : contents_of (bytes_for seed n) ≡ contents_for seed n
  says = contents_written check_number (contents_for seed n) (eight_for seed n)

  -- "the bytes are in R-6's form": written by R-6 it is the same, byte for byte
  pub written_same : image check_number (bytes_for seed n) ≡ bytes_for seed n
  written_same = ap (written check_number) says

  pub recorded : file_of (bytes_for seed n) ≡ layout_for n
  recorded = file_written check_number (contents_for seed n) (eight_for seed n) ∙ layout_for_law seed n

  pub short : n ≤ 1000 → (layout_for n).length ≤ 1048576
  unfolding layout
  short h = omega arith

  -- R-11: "The load files of R-10 keep their promise under check number 5927"
  module _ (s : Settings) (range : InRange s) (five : s.check_number ≡ check_number) (few : n ≤ 1000) (number : ℕ) (cells saved entities : List ℕ) (lent : Lent number cells saved entities) where
    can_load : Loadable s (bytes_for seed n) number (length cells) (length saved) (length entities)
    unfolding layout contents_for
    can_load =
        let size = length_file seed n in
        record {
          settings = range;
          shortest = omega arith;
          longest = omega (arith, short few);
          version = version_written check_number (contents_for seed n) (eight_for seed n);
          check_number_law = check_written check_number (contents_for seed n) (eight_for seed n) ∙ sym five;
          lumps = rw recorded (layout_fits (n + 2) 0 0 2 1 64 105 (short few));
          functions = rw (says, recorded) ((refl, omega arith, omega arith), ((refl, omega arith, omega arith), tt));
          statements = rw says (omega arith, known_drawn (drawn drawn_statement 4 n (after 36 seed)) (all_arithmetic n (after 36 seed)));
          globaldefs = rw says tt;
          fielddefs = rw says tt;
          least = rw recorded (omega arith);
          most = rw recorded (omega arith);
          per_entity = rw recorded (omega arith);
          signed = rw recorded refl;
          enough = rw recorded lent.enough;
          store_enough = lent.store;
          few = lent.few;
          entities_enough = rw recorded lent.entity_cells;
        }

    pub always_loads : load s (bytes_for seed n) (pos number) cells saved entities ≡ accepted (loaded s (bytes_for seed n) number cells saved entities)
    always_loads = loadable s (bytes_for seed n) number cells saved entities can_load
