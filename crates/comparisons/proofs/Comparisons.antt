-- What a Not but of a vector or a string checks and leaves. Assumes nothing.
use Rattle.std.specs.Prelude.{ℕ, List, get_or, set}
use Rattle.std.proofs.Common.{refl}
use Rattle.definition.specs.Checks.{judge}
use Rattle.definition.specs.Cells.{Typing, access, must_be_natural, read_access}
use Rattle.definition.specs.Statements.{negates_effect, unused}
use Rattle.typed.specs.Checking.{first, move_refusal}
use Rattle.typed.proofs.Laws.{judge_three}
use Rattle.globals.proofs.Statements.{Is}

pub negates_is : (t : ℕ) (f : ℕ → ℕ) (g : Typing) (a b c : ℕ) (cells : List ℕ)
    → Is (negates_effect t f g a b c cells) (first (judge (unused b)) (move_refusal g (must_be_natural t) t a 2 c cells)) (set cells c (f (get_or cells a 0)))
unfolding negates_effect
negates_is t f g a b c cells = record { refusal_is = judge_three (unused b) (read_access g (must_be_natural t) t a cells) (access g 2 c); cells_are = refl }
