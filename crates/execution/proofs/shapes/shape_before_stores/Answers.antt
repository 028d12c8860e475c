use Rattle.std.specs.Prelude.{[], ◌∷◌}
use Rattle.std.proofs.Common.{rules, arith, refl}
use Rattle.definition.specs.Statements.{opcodes}
use Rattle.execution.proofs.Opcodes.{no_call_before, rest}
use Rattle.execution.proofs.shapes.shape_before_stores.Goals as goal

pub returns-in_default : goal.returns-in_default
unfolding opcodes
returns-in_default c =
    rest 0 31 (0 ∷ 2 ∷ 3 ∷ 4 ∷ 7 ∷ 9 ∷ 11 ∷ 12 ∷ 13 ∷ 14 ∷ 16 ∷ 17 ∷ 18 ∷ 19 ∷ 24 ∷ 25 ∷ 26 ∷ 27 ∷ 28 ∷ 29 ∷ 30 ∷ []) c.args.op (omega arith) (omega arith) c.requires.0 c.requires.1 (no_call_before _ c.requires.0) refl (search rules)
