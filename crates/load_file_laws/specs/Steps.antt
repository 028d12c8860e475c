-- THE STATEMENTS of a load file, as the machine does them: a drawn statement completes and goes on to the next one, whatever the cells hold; the last one returns.
use Rattle.std.specs.Prelude.{ℕ, zero, suc, ◌<◌, ◌≡◌, List, [], ◌∷◌, ◌++◌, pos, ◌+ℤ◌, length, get_or}
use Rattle.std.proofs.Math.Path.{refl}
use Rattle.std.proofs.Common.{◌∙◌, le_of_suc-le-suc, arith}
use borrow.Author.Tests.{lt-ltb}
use Rattle.std.proofs.Math.ListN.{set, length-set}
use Rattle.definition.specs.declared.Statement.{Statement}
use Rattle.definition.specs.Checks.{Conditions}
use Rattle.definition.specs.File.{Contents}
use Rattle.definition.specs.Cells.{float, lookup, passes, cell_of, Typing, cell_access, access, typing_of}
use Rattle.definition.specs.Statements.{Entities, Does, next, returns, provided, shape_of, opcodes, floats_effect, no_statement, fetch_conditions, execute, does_at}
use Rattle.definition.specs.CheckLaws.{All}
use Rattle.definition.proofs.CheckLaws.{all_both, judge_all}
use Rattle.laws.specs.Loadable.{Every}
use Rattle.load_files.specs.Draws.{drawn}
use Rattle.load_files.specs.LoadFile.{drawn_statement, return, statements_from}
use Rattle.load_files.specs.Laws.{length_drawn}
use Rattle.load_file_laws.specs.Drawn.{Arithmetic, all_arithmetic}

provided_all : (cs : Conditions) (d : Does) → All cs → provided cs d ≡ d
provided_all cs d h = rw (judge_all cs h) refl

-- ---- access to a cell of a file without definitions

module _ (g : Typing) (bare : g.definitions ≡ []) (count : g.count ≡ 64) where
  float_access : (a : ℕ) → a < 64 → All (access g float (cell_of a))
  unfolding access cell_access lookup passes cell_of
  float_access a h = rw (bare, count, lt-ltb a 32768 (omega arith), lt-ltb a 64 h) (refl, (refl, tt))

-- ---- one statement

-- with the new cells, which are as many
pub record GoesOn (k : Contents) (i : ℕ) (e : Entities) (cells : List ℕ) : Type 0 where
  pub written : List ℕ
  pub does : does_at k (pos i) e cells ≡ next (pos i +ℤ pos 1) written
  pub same : length written ≡ length cells

module _ (k : Contents) (bare : k.globaldefs ≡ []) (count : length k.globals ≡ 64) (i : ℕ) (there : i < length k.statements) (e : Entities) (cells : List ℕ) where
  abbrev st : Statement
  st = get_or k.statements i no_statement

  fetched : st.opcode < 66 → does_at k (pos i) e cells ≡ execute k (pos i) st e cells
  unfolding does_at fetch_conditions
  fetched h = provided_all _ _ (lt-ltb i (length k.statements) there, (lt-ltb st.opcode 66 h, tt))

  pub arithmetic_goes_on : Arithmetic st → GoesOn k i e cells
  unfolding execute floats_effect
  arithmetic_goes_on a =
      let g : Typing = typing_of k in
      let first = access g float (cell_of st.arg1) in
      let second = access g float (cell_of st.arg2) in
      let third = access g float (cell_of st.arg3) in
      let all : All (first ++ second ++ third) =
      all_both (first ++ second) third
      (all_both first second (float_access g bare count st.arg1 a.first) (float_access g bare count st.arg2 a.second))
      (float_access g bare count st.arg3 a.destination)
      in
      record {
        written = set cells (cell_of st.arg3) (a.operation (get_or cells (cell_of st.arg1) 0) (get_or cells (cell_of st.arg2) 0));
        does = fetched a.known ∙ rw a.shape (provided_all (first ++ second ++ third) _ all);
        same = length-set cells _ _;
      }

  pub return_returns : st ≡ return → does_at k (pos i) e cells ≡ returns 28
  unfolding execute shape_of opcodes cell_of
  return_returns is = fetched (rw is (omega arith)) ∙ rw is refl

-- ---- which statement stands where

every_at : (xs ys : List Statement) (i : ℕ) → Every Arithmetic xs → i < length xs → Arithmetic (get_or (xs ++ ys) i no_statement)
every_at [] ys i h l = absurd (omega arith)
every_at (x ∷ xs) ys zero h l = h.0
every_at (x ∷ xs) ys (suc i) h l = every_at xs ys i h.1 (le_of_suc-le-suc l)

last_at : (xs : List Statement) (x : Statement) (n : ℕ) → length xs ≡ n → get_or (xs ++ x ∷ []) n no_statement ≡ x
last_at [] x zero e = refl
last_at [] x (suc n) e = absurd (omega arith)
last_at (y ∷ ys) x zero e = absurd (omega arith)
last_at (y ∷ ys) x (suc n) e = last_at ys x n (omega arith)

module _ (n s : ℕ) where
  pub drawn_at : (i : ℕ) → i < n → Arithmetic (get_or (statements_from n s) (suc i) no_statement)
  drawn_at i h = every_at (drawn drawn_statement 4 n s) (return ∷ []) i (all_arithmetic n s) (omega (arith, length_drawn drawn_statement 4 n s))

  pub return_at : get_or (statements_from n s) (suc n) no_statement ≡ return
  return_at = last_at (drawn drawn_statement 4 n s) return n (length_drawn drawn_statement 4 n s)
