-- What laws of statements speak of: what keeps the cells from a count on, and that what a statement does agrees with the kind that the log takes it for.
use Prim.Native.Nat.{ℕ, suc, ◌+◌, ◌*◌}
use Rattle.std.specs.Prelude.{◌≡◌, List, [], ◌∷◌, Bool, true, ◌&&◌, cond, ℤ, pos, ◌+ℤ◌, length, drop, eqb}
use Rattle.definition.specs.File.{contents_of}
use Rattle.definition.specs.Cells.{vector}
use Rattle.definition.specs.Statements.{Entities, Does, next, puts, calls, returns, refuses, hands_over}
use Rattle.definition.specs.Log.{Kind, entry, leaving, other}

-- the test f passes at each entry of a list and its place, counted from i
abbrev pub every : {A : Type 0} → (ℕ → A → Bool) → ℕ → List A → Bool
every f i [] = true
every f i (x ∷ xs) = f i x && every f (suc i) xs

pub record Keeps (count : ℕ) (cells cells' : List ℕ) : Type 0 where
  pub same_length : length cells' ≡ length cells
  pub same_above : drop count cells' ≡ drop count cells

-- the last cell of a value of a type from a cell on
abbrev pub last_of : ℕ → ℕ → ℕ
last_of t cell = cond (eqb t vector) (cell + 2) cell

-- what a statement does agrees with the kind that the log takes it for: from what is there before it (the file's count of cells, the number of entity
-- cells that the entities have, the position, the lent cells and entity cells)
pub record Before : Type 0 where
  pub count : ℕ
  pub room : ℕ
  pub position : ℤ
  pub cells : List ℕ
  pub entities : List ℕ

abbrev pub HasKind : Before → Kind → Does → Type 0
HasKind x κ (next p' cells') = (κ ≡ other) × Keeps x.count x.cells cells'
HasKind x κ (puts p' entities') = (κ ≡ other) × Keeps x.room x.entities entities'
HasKind x κ (calls f) = κ ≡ entry f (x.position +ℤ pos 1)
HasKind x κ (returns a) = κ ≡ leaving
HasKind x κ (refuses n) = Unit {0}
HasKind x κ (hands_over h) = Unit {0}

-- before a statement of a file
abbrev pub before_in : List ℕ → ℤ → Entities → List ℕ → Before
before_in file p e cells =
    record {
      count = length (contents_of file).globals;
      room = e.count * (contents_of file).entityfields;
      position = p;
      cells = cells;
      entities = e.cells;
    }
