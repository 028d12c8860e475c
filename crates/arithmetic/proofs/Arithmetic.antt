-- Laws of arithmetic: operands that name their own cells, and the cells that a vector is written to. Assumes nothing.
use Rattle.std.specs.Prelude.{ℕ, zero, suc, ◌+◌, ◌≤◌, ◌<◌, List, Bool, cond, length, get_or, set, ltb}
use Rattle.std.proofs.Common.{◌≡◌, refl, true, false, arith}
use borrow.Author.Tests.{lt-ltb}
use Rattle.definition.specs.Checks.{judge}
use Rattle.definition.specs.File.{records}
use Rattle.definition.specs.Cells.{Typing, cell_of, lookup, passes, cell_access, access}
use Rattle.definition.specs.Statements.{floats_effect, vectors_effect, vectors_to_float_effect, vector_result}
use Rattle.typed.specs.Typing.{typing}
use Rattle.typed.specs.Checking.{three_refusal, Reaches}
use Rattle.typed.proofs.Laws.{neither, judge_three, reach}
use Rattle.globals.proofs.Statements.{Is}
use Rattle.arithmetic.specs.Components.{components}

-- ---- operands: no file has more than 32,768 cells, so one that is below the count names its own cell

module _ (count : ℕ) (most : count ≤ 32768) (x : ℕ) where
  pub own_cell : x < count → cell_of x ≡ x
  unfolding cell_of
  own_cell h = rw (lt-ltb x 32768 (omega arith))

  pub cell_own : cell_of x < count → cell_of x ≡ x
  unfolding cell_of
  cell_own = go (ltb x 32768)
    where
      go : (b : Bool) → cond b x (x + 65536) < count → cond b x (x + 65536) ≡ x
      go true h = refl
      go false h = absurd (omega arith)

-- with no definitions, an operand below the count passes as a float
pub untyped : (defs : List ℕ) (count x : ℕ) → count ≤ 32768 → length defs ≡ 0 → x < count → judge (access (typing defs count) 2 (cell_of x)) ≡ 0
unfolding access cell_access judge lookup passes records
untyped defs count x most none h = rw (none, own_cell count most x h, lt-ltb x count h)

-- ---- three typed accesses

module _ (g : Typing) (a b c : ℕ) (cells : List ℕ) where
  pub floats_is : (f : ℕ → ℕ → ℕ) → Is (floats_effect f g a b c cells) (three_refusal g 2 a 2 b 2 c) (set cells c (f (get_or cells a 0) (get_or cells b 0)))
  unfolding floats_effect
  floats_is f = record { refusal_is = judge_three (access g 2 a) (access g 2 b) (access g 2 c); cells_are = refl }

  pub vectors_is : (ta tb : ℕ) (f : ℕ → ℕ → ℕ) → Is (vectors_effect ta tb f g a b c cells) (three_refusal g ta a tb b 3 c) (vector_result ta tb f a b c cells)
  unfolding vectors_effect
  vectors_is ta tb f = record { refusal_is = judge_three (access g ta a) (access g tb b) (access g 3 c); cells_are = refl }

  pub vectors_to_float_is : (f : ℕ → ℕ → ℕ → ℕ → ℕ → ℕ → ℕ)
      → Is (vectors_to_float_effect f g a b c cells) (three_refusal g 3 a 3 b 2 c)
      (set cells c (f (get_or cells a 0) (get_or cells (a + 1) 0) (get_or cells (a + 2) 0) (get_or cells b 0) (get_or cells (b + 1) 0) (get_or cells (b + 2) 0)))
  unfolding vectors_to_float_effect
  vectors_to_float_is f = record { refusal_is = judge_three (access g 3 a) (access g 3 b) (access g 2 c); cells_are = refl }

pub reach_three : (g : Typing) (ta a tb b tc c : ℕ) → three_refusal g ta a tb b tc c ≡ 0
    → Reaches ta a g.count × Reaches tb b g.count × Reaches tc c g.count
reach_three g ta a tb b tc c e =
    let first_passed = neither _ _ e in
    let second_passed = neither _ _ first_passed.1 in
    (reach g ta a first_passed.0, reach g tb b second_passed.0, reach g tc c second_passed.1)

-- ---- the result of a vector statement, component by component

-- the cells after the first n
abbrev pub written : (ℕ → ℕ → ℕ) → ℕ → List ℕ → List ℕ → List ℕ → ℕ → List ℕ
written f c x y cells zero = cells
written f c x y cells (suc n) = set (written f c x y cells n) (c + n) (f (get_or x n 0) (get_or y n 0))

pub written_three : (ta tb : ℕ) (f : ℕ → ℕ → ℕ) (a b c : ℕ) (cells : List ℕ) (n : ℕ) → n ≡ 3
    → vector_result ta tb f a b c cells ≡ written f c (components ta a cells) (components tb b cells) cells n
unfolding vector_result
written_three ta tb f a b c cells n h = let start : c + 0 ≡ c = omega arith in rw (h, start)
