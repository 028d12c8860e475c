-- THE STATEMENTS THAT WRITE CELLS: the number of the refusal, 0 where there is none, with the cells after it.
use Rattle.std.specs.Prelude.{ℕ, List, Result, cond, eqb}
use Rattle.definition.specs.declared.refusal.Refusal.{Refusal}
use Rattle.definition.specs.Refusals.{refusal_in}
use Rattle.definition.specs.Checks.{judge}
use Rattle.definition.specs.Statements.{Effect}

pub record After : Type 0 where
  pub refusal : ℕ
  pub cells : List ℕ

abbrev pub after : Result Unit Refusal → List ℕ → After
after result cells = record { refusal = refusal_in result; cells = cells }

-- a refusal leaves the cells
unfoldable pub effect_on : Effect → List ℕ → After
effect_on e cells = record { refusal = judge e.conditions; cells = cond (eqb (judge e.conditions) 0) e.cells cells }
