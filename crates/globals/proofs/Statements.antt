-- Laws of the statements that write cells: their outcome by the number of the first refusal, and how far an accepted move reaches. Assumes nothing.
use Rattle.std.specs.Prelude.{ℕ, List, Bool}
use Rattle.std.proofs.Common.{◌≡◌}
use Rattle.definition.specs.Checks.{judge}
use Rattle.definition.specs.Cells.{Typing}
use Rattle.definition.specs.Statements.{Effect}
use Rattle.typed.specs.Checking.{move_refusal, Reaches}
use Rattle.typed.proofs.Laws.{neither, reach, read_reach}

-- ---- outcomes

-- an effect by the number of its first refusal, and the cells after it
pub record Is (e : Effect) (refusal : ℕ) (cells : List ℕ) : Type 0 where
  pub refusal_is : judge e.conditions ≡ refusal
  pub cells_are : e.cells ≡ cells

-- ---- how far an accepted move reaches

pub reach_move : (g : Typing) (natural : Bool) (ta a tb b : ℕ) (cells : List ℕ) → move_refusal g natural ta a tb b cells ≡ 0 → Reaches ta a g.count × Reaches tb b g.count
reach_move g natural ta a tb b cells e =
    let h = neither _ _ e in
    (read_reach g natural ta a cells h.0, reach g tb b h.1)
