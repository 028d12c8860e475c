-- What 12 and 13 ask of what is lent for a load file. That such a file always loads is proved in proofs/Loads.antt.
use Rattle.std.specs.Prelude.{ℕ, ◌*◌, ◌≤◌, List, length}

-- what 12 and 13 ask of what is lent, beside so many entities
pub record Lent (number : ℕ) (cells saved entities : List ℕ) : Type 0 where
  pub enough : 64 ≤ length cells
  pub store : 2048 ≤ length saved
  pub few : number ≤ 600
  pub entity_cells : number * 105 ≤ length entities
