-- Operations on two floats, and comparisons, by their cells. Assumes nothing.
use Rattle.std.proofs.Common.{◌≡◌, ℕ, Bool}
use lib.Ieee.{Float}
use Rattle.definition.specs.Floats.{value, cell, on_cells, flag, on_flags}

-- one law for every operation on two floats, and one for every comparison: x and y are what `of_cell` gave, r what `to_cell` or `flag` made
pub on_cells_law : (op : Float → Float → Float) (a b r : ℕ) (x y : Float) → x ≡ value a → y ≡ value b → r ≡ cell (op x y) → r ≡ on_cells op a b
on_cells_law op a b r x y p q h = cc

pub on_flags_law : (test : Float → Float → Bool) (a b r : ℕ) (x y : Float) → x ≡ value a → y ≡ value b → r ≡ flag (test x y) → r ≡ on_flags test a b
on_flags_law test a b r x y p q h = cc
