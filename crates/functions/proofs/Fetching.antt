-- The fetch's answers, by what the code tests: k is the place of the position p among some statements. Assumes nothing.
use Rattle.std.proofs.Common.{ℕ, ◌*◌, ◌≤◌, ◌<◌, ◌≡◌, sym, ◌∙◌, List, true, false, length, get_or, ltb, lt-ltb, le-ltb, w64, to_z, of_z, FitsSigned}
use Rattle.std.specs.Prelude.{ℤ}
use Rattle.std.proofs.Math.Nat.{zero-add}
use Rattle.std.proofs.Math.Facts.{to_z-of_z}
use Rattle.definition.specs.declared.Statement.{Statement}
use Rattle.definition.specs.Checks.{judge, guard, refused}
use Rattle.definition.specs.File.{records}
use Rattle.definition.specs.Statements.{fetch_conditions, no_statement, place_of}
use Rattle.definition.proofs.RecordLaws.{get_d_records, length_records}
use Rattle.functions.specs.Answers.{Reads, found, fetched}

-- what reads the statements that stand one behind the other
pub reads_law : (gives : ℕ → Statement → Type 0) (read : ℕ → Statement) (size n : ℕ) → ((k : ℕ) (st : Statement) → gives k st → st ≡ read (size * k)) → Reads gives n (records read size n 0)
reads_law gives read size n is =
    record {
      many = length_records _ _ _ _;
      each = λ k st there given. get_d_records _ _ _ _ _ _ there ∙ rw zero-add (sym (is k st given));
    }

module _ (statements : List Statement) (count : ℕ) (size : length statements ≡ count) (p : ℤ) (fits : FitsSigned w64 p) (k : ℕ) (place : k ≡ place_of count (to_z w64 (of_z w64 p))) where
  same_place : place_of (length statements) p ≡ k
  same_place = rw size (sym (rw (to_z-of_z fits) at place))

  pub none_there : count ≤ k → refused 14 ≡ fetched statements p
  unfolding fetched guard fetch_conditions judge
  none_there h = rw (same_place, size, le-ltb k count h)

  module _ (st : Statement) (there : k < count) (read : get_or statements k no_statement ≡ st) where
    pub bad_opcode : ltb st.opcode 66 ≡ false → refused 7 ≡ fetched statements p
    unfolding fetched guard fetch_conditions judge
    bad_opcode e = rw (same_place, size, lt-ltb k count there, read, e)

    pub fetched_at : ltb st.opcode 66 ≡ true → found k st ≡ fetched statements p
    unfolding fetched guard fetch_conditions judge
    fetched_at e = rw (same_place, size, lt-ltb k count there, read, e)
