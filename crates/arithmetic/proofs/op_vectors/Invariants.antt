use Rattle.std.proofs.Common.{◌≡◌}
use Rattle.floats.specs.Opcodes.{component_op}
use Rattle.arithmetic.proofs.Arithmetic.{written}
use Rattle.arithmetic.proofs.op_vectors.Given as goal

abbrev pub invariant-loop-i : goal.invariant-loop-i
invariant-loop-i l = l.cells ≡ written (component_op l.op) l.at.c l.x l.y l.initial.cells l.i
