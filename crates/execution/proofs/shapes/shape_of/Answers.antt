use Rattle.std.specs.Prelude.{[], ◌∷◌}
use Rattle.std.proofs.Common.{rules, refl}
use Rattle.definition.specs.Statements.{opcodes}
use Rattle.execution.proofs.Opcodes.{is_call_law, rest}
use Rattle.execution.proofs.shapes.shape_of.Goals as goal

pub returns-then-op : goal.returns-then-op
returns-then-op c = is_call_law _ c.requires.0 c.if-op.true

pub returns-in_default : goal.returns-in_default
unfolding opcodes
returns-in_default c =
    rest 31 66 (31 ∷ 32 ∷ 33 ∷ 34 ∷ 35 ∷ 36 ∷ 37 ∷ 38 ∷ 39 ∷ 40 ∷ 41 ∷ 42 ∷ 43 ∷ 44 ∷ 45 ∷ 46 ∷ 47 ∷ 48 ∷ 49 ∷ 50 ∷ 61 ∷ []) c.args.op c.requires.0 c.if-op-lt-STORE_F.false c.requires.0 c.requires.1 c.if-op.false refl (search rules)
