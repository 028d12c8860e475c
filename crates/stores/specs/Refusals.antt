-- THE NUMBER OF THE FIRST REFUSAL of StoreV, 0 where nothing refuses: one cell, as float or by address alone; n cells of each vector; the whole statement.
use Rattle.std.specs.Prelude.{ℕ, zero, suc, ◌+◌, Bool, cond, ltb}
use Rattle.definition.specs.Checks.{judge}
use Rattle.definition.specs.Cells.{float, Typing, cell_access}
use Rattle.definition.specs.Statements.{unused, reserved_cell}
use Rattle.typed.specs.Checking.{first}

unfoldable pub raw_refusal : Typing → Bool → ℕ → ℕ
raw_refusal g raw cell = cond raw (cond (ltb cell g.count) 0 15) (judge (cell_access g float cell))

-- cell by cell, source before destination
unfoldable pub copies_refusal : Typing → Bool → ℕ → ℕ → ℕ → ℕ
copies_refusal g raw zero a b = 0
copies_refusal g raw (suc n) a b = first (raw_refusal g raw a) (first (raw_refusal g raw b) (copies_refusal g raw n (a + 1) (b + 1)))

abbrev pub store_v_refusal : Typing → ℕ → ℕ → ℕ → ℕ
store_v_refusal g a b c = first (judge (unused c)) (copies_refusal g (reserved_cell b) 3 a b)
