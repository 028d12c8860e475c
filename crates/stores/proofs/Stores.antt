-- Laws of Stores: what each checks and leaves, and how far StoreV reaches. Assumes nothing.
use Rattle.std.specs.Prelude.{ℕ, zero, suc, ◌+◌, ◌-◌, ◌<◌, List, Bool, cond, ltb}
use Rattle.std.proofs.Common.{◌≡◌, refl, ◌∙◌, true, false, arith}
use borrow.Author.Tests.{ltb-true}
use Rattle.definition.specs.Checks.{judge}
use Rattle.definition.specs.Cells.{Typing, addressed, cell_access, access, read_access}
use Rattle.definition.specs.Statements.{stores_effect, stores_v_effect, unused, moved, stored_natural, reserved_cell, move_access}
use Rattle.typed.specs.Checking.{first, move_refusal}
use Rattle.typed.proofs.Laws.{neither, judge_both, judge_three, judge_four, cell_reach}
use Rattle.globals.proofs.Statements.{Is}
use Rattle.stores.specs.Refusals.{raw_refusal, copies_refusal, store_v_refusal}

pub stores_is : (t : ℕ) (g : Typing) (a b c : ℕ) (cells : List ℕ)
    → Is (stores_effect t g a b c cells) (first (judge (unused c)) (move_refusal g (stored_natural t) t a t b cells)) (moved a b cells)
unfolding stores_effect
stores_is t g a b c cells = record { refusal_is = judge_three (unused c) (read_access g (stored_natural t) t a cells) (access g t b); cells_are = refl }

-- ---- what StoreV checks

module _ (g : Typing) (raw : Bool) where
  copy_judged : (i j : ℕ) → judge (move_access g raw i j) ≡ first (raw_refusal g raw i) (raw_refusal g raw j)
  unfolding raw_refusal judge
  copy_judged i j = go raw
    where
      go : (b : Bool) → judge (move_access g b i j) ≡ first (cond b (cond (ltb i g.count) 0 15) (judge (cell_access g 2 i))) (cond b (cond (ltb j g.count) 0 15) (judge (cell_access g 2 j)))
      go true = judge_both (addressed g i) (addressed g j)
      go false = judge_both (cell_access g 2 i) (cell_access g 2 j)

  pub raw_reach : (cell : ℕ) → raw_refusal g raw cell ≡ 0 → cell < g.count
  unfolding raw_refusal
  raw_reach cell e = go raw (ltb cell g.count) refl e
    where
      go : (p q : Bool) → ltb cell g.count ≡ q → cond p (cond q 0 15) (judge (cell_access g 2 cell)) ≡ 0 → cell < g.count
      go true true k e = ltb-true _ _ k
      go true false k e = absurd (omega arith)
      go false q k e = cell_reach g 2 cell e

  -- the checks that are left after i cells of each
  pub copies_on : (n a b i : ℕ) → i < n
      → copies_refusal g raw (n - i) (a + i) (b + i)
      ≡ first (raw_refusal g raw (a + i)) (first (raw_refusal g raw (b + i)) (copies_refusal g raw (n - (i + 1)) (a + (i + 1)) (b + (i + 1))))
  unfolding copies_refusal
  copies_on n a b i h =
      let more : n - i ≡ suc (n - (i + 1)) = omega arith in
      let next_a : a + i + 1 ≡ a + (i + 1) = omega arith in
      let next_b : b + i + 1 ≡ b + (i + 1) = omega arith in
      rw (more, next_a, next_b)

  pub copies_none : (n a b : ℕ) → n ≡ 0 → copies_refusal g raw n a b ≡ 0
  unfolding copies_refusal
  copies_none n a b h = rw h

pub stores_v_judged : (g : Typing) (a b c : ℕ) (cells : List ℕ) → judge (stores_v_effect g a b c cells).conditions ≡ store_v_refusal g a b c
unfolding stores_v_effect copies_refusal first
stores_v_judged g a b c cells =
    let raw = reserved_cell b in
    judge_four (unused c) (move_access g raw a b) (move_access g raw (a + 1) (b + 1)) (move_access g raw (a + 2) (b + 2))
    ∙ grind (arith, copy_judged g raw a b, copy_judged g raw (a + 1) (b + 1), copy_judged g raw (a + 2) (b + 2))

pub reach_store_v : (g : Typing) (a b c : ℕ) → store_v_refusal g a b c ≡ 0 → (a + 2 < g.count) × (b + 2 < g.count)
unfolding copies_refusal
reach_store_v g a b c e =
    let raw = reserved_cell b in
    let first_cells = neither _ _ (neither _ _ e).1 in
    let second_cells = neither _ _ (neither _ _ first_cells.1).1 in
    let third_cells = neither _ _ (neither _ _ second_cells.1).1 in
    let a_below = raw_reach g raw _ third_cells.0 in
    let b_below = raw_reach g raw _ (neither _ _ third_cells.1).0 in
    (omega arith, omega arith)

-- ---- what it leaves

-- the cells after the first n moves
abbrev pub copied : ℕ → ℕ → List ℕ → ℕ → List ℕ
copied a b cells zero = cells
copied a b cells (suc n) = moved (a + n) (b + n) (copied a b cells n)

pub stores_v_cells : (g : Typing) (a b c : ℕ) (cells : List ℕ) (n : ℕ) → n ≡ 3 → (stores_v_effect g a b c cells).cells ≡ copied a b cells n
unfolding stores_v_effect
stores_v_cells g a b c cells n h =
    let first_a : a + 0 ≡ a = omega arith in
    let first_b : b + 0 ≡ b = omega arith in
    rw (h, first_a, first_b)
