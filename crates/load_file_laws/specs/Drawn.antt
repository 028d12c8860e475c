-- WHAT IS DRAWN: whatever the draws are, a statement is MulF, AddF or SubF of cells that are there.
use Rattle.std.specs.Prelude.{ℕ, zero, suc, ◌%◌, ◌<◌, ◌≡◌, refl, [], ◌∷◌, get_or}
use Rattle.std.proofs.Common.{arith}
use Rattle.definition.specs.declared.Statement.{Statement}
use Rattle.definition.specs.Statements.{floats, opcodes, shape_of}
use Rattle.laws.specs.Loadable.{Every}
use Rattle.load_files.specs.Draws.{after, drawn}
use Rattle.load_files.specs.LoadFile.{opcode_of, drawn_statement}

-- a statement of two floats to a float, on cells below 64
pub record Arithmetic (st : Statement) : Type 0 where
  pub operation : ℕ → ℕ → ℕ
  pub shape : shape_of st.opcode ≡ floats operation
  pub known : st.opcode < 66
  pub first : st.arg1 < 64
  pub second : st.arg2 < 64
  pub destination : st.arg3 < 64

record Known (opcode : ℕ) : Type 0 where
  operation : ℕ → ℕ → ℕ
  shape : shape_of opcode ≡ floats operation
  known : opcode < 66

-- "MulF, AddF or SubF as the draw modulo 3 is 0, 1 or 2"
one_of_three : (r : ℕ) → r < 3 → Known (get_or (1 ∷ 6 ∷ 8 ∷ []) r 0)
unfolding shape_of opcodes
one_of_three zero h = record { operation = _; shape = refl; known = omega arith }
one_of_three (suc zero) h = record { operation = _; shape = refl; known = omega arith }
one_of_three (suc (suc zero)) h = record { operation = _; shape = refl; known = omega arith }
one_of_three (suc (suc (suc r))) h = absurd (omega arith)

opcode_known : (d : ℕ) → Known (opcode_of d)
unfolding opcode_of
opcode_known d = one_of_three (d % 3) (omega arith)

statement_arithmetic : (s : ℕ) → Arithmetic (drawn_statement s)
unfolding drawn_statement
statement_arithmetic s =
    let k = opcode_known (after 1 s) in
    record {
      operation = k.operation;
      shape = k.shape;
      known = k.known;
      first = omega arith;
      second = omega arith;
      destination = omega arith;
    }

pub all_arithmetic : (n s : ℕ) → Every Arithmetic (drawn drawn_statement 4 n s)
unfolding drawn
all_arithmetic zero s = tt
all_arithmetic (suc n) s = (statement_arithmetic s, all_arithmetic n (after 4 s))
