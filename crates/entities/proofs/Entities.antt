-- What a read of a field and a write through a pointer check and leave, and how far entities and their fields reach. Assumes nothing.
use Rattle.std.specs.Prelude.{ℕ, zero, suc, ◌+◌, ◌*◌, ◌/◌, ◌%◌, ◌≤◌, ◌<◌, ◌≡◌, List, [], ◌∷◌, ◌++◌, Bool, true, false, not, ◌&&◌, cond, eqb, length, get_or, ltb, take, drop, set}
use Rattle.std.proofs.Common.{refl, ap, arith, eq-eqb, mul-le-mul}
use Rattle.definition.specs.Checks.{Conditions, ◌otherwise◌, judge}
use Rattle.definition.specs.File.{negative}
use Rattle.definition.specs.Cells.{Typing, access, read_access, must_be_natural, field_access}
use Rattle.definition.specs.Statements.{Entities, unused, stored_natural, value_moved, loads_effect, stores_p_effect}
use Rattle.definition.proofs.StatementLaws.{entity_cell, pointer_cell}
use Rattle.typed.specs.Checking.{first, move_refusal, Reaches}
use Rattle.typed.proofs.Laws.{judge_both, first_first, reaches}
use Rattle.globals.proofs.Statements.{Is}
use Rattle.entities.specs.Checked.{pointed_conditions}

-- ---- what a write through a pointer, and a read, check and leave

judge_six : (p q r s u v : Conditions)
    → judge (p ++ q ++ r ++ s ++ u ++ v) ≡ first (first (judge p) (first (judge q) (judge r))) (first (judge (s ++ u)) (judge v))
judge_six p q r s u v = simp (judge_both, first_first)

pub stores_p_is : (t : ℕ) (g h : Typing) (e : Entities) (a b c : ℕ) (cells : List ℕ)
    → Is (stores_p_effect t g h e a b c cells)
    (first
    (first (judge (unused c)) (move_refusal g (must_be_natural t) t a 7 b cells))
    (first (judge (pointed_conditions t h e (get_or cells b 0))) (judge ((not (eqb t 1 && negative (get_or cells a 0)) otherwise 17) ∷ []))))
    (value_moved t cells a e.cells (get_or cells b 0 / 4))
unfolding stores_p_effect
stores_p_is t g h e a b c cells =
    record {
      refusal_is = judge_six (unused c) (read_access g (must_be_natural t) t a cells) (access g 7 b) _ (field_access h t (get_or cells b 0 / 4 % h.count)) _;
      cells_are = refl;
    }

judge_parts : (p q r s u v : Conditions)
    → judge (p ++ q ++ r ++ s ++ u ++ v) ≡ first (first (judge p) (first (judge q) (judge r))) (first (judge s) (first (judge u) (judge v)))
judge_parts p q r s u v = simp (judge_both, first_first)

-- what a read of a field checks and leaves
pub loads_is : (t : ℕ) (g h : Typing) (e : Entities) (a b c : ℕ) (cells : List ℕ)
    → Is (loads_effect t g h e a b c cells)
    (first
    (first (judge (read_access g true 4 a cells)) (move_refusal g true 5 b t c cells))
    (first
    (judge ((ltb (get_or cells a 0) e.count otherwise 30) ∷ []))
    (first
    (judge (field_access h t (get_or cells b 0)))
    (judge ((not (stored_natural t && negative (get_or e.cells (get_or cells a 0 * h.count + get_or cells b 0) 0)) otherwise 17) ∷ [])))))
    (value_moved t e.cells (get_or cells a 0 * h.count + get_or cells b 0) cells c)
unfolding loads_effect
loads_is t g h e a b c cells =
    record {
      refusal_is = judge_parts (read_access g true 4 a cells) (read_access g true 5 b cells) (access g t c) _ (field_access h t (get_or cells b 0)) _;
      cells_are = refl;
    }

-- ---- how far entities and their fields reach

pub vector_reach : (t cell n : ℕ) → t ≡ 3 → Reaches t cell n → cell + 2 < n
vector_reach t cell n h r = rw (eq-eqb t 3 h) at r.third_below

-- the first cell of an entity has 41 bits
pub offset_below : (n size : ℕ) → n ≤ 600 → size ≤ 2147483648 → n * size ≤ 1288490188800
offset_below n size h k = mul-le-mul h k

pub reach_field : (t number size n field : ℕ) → n < number → Reaches t field size → Reaches t (n * size + field) (number * size)
reach_field t number size n field owner r = reaches t (n * size + field) (number * size) (go (eqb t 3) r.third_below)
  where
    go : (b : Bool) → cond b (field + 2) field < size → cond b (n * size + field + 2) (n * size + field) < number * size
    go true h = omega (arith, entity_cell number size n (field + 2) owner h)
    go false h = entity_cell number size n field owner h

pub reach_pointed : (t number size place : ℕ) → place / size < number → Reaches t (place % size) size → Reaches t place (number * size)
reach_pointed t number size place owner r = rw (pointer_cell place size) at (reach_field t number size (place / size) (place % size) owner r)
