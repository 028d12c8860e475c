-- What an opcode makes of its operands' cells, read off the definition's table `opcodes`; 0 for an opcode of another shape. Assumes nothing.
use Rattle.std.specs.Prelude.{◌≡◌, ℕ}
use Rattle.std.proofs.Common.{ap}
use Rattle.std.proofs.Math.Option.{Option, none, some, get_or}
use Rattle.definition.specs.Statements.{Shape, floats, values, vectors, vectors_to_float, strings, negates, negates_v, negates_s, stores, stores_v, loads, addresses, stores_p, branches, jumps, call, return, host, shape_of}

abbrev pub Unary : Type 0
Unary = ℕ → ℕ

abbrev pub Binary : Type 0
Binary = ℕ → ℕ → ℕ

-- two vectors
abbrev pub Pairing : Type 0
Pairing = ℕ → ℕ → ℕ → ℕ → ℕ → ℕ → ℕ

-- a choice for each shape that has a function, and one for the rest
abbrev pub by_shape : {A : Type 0} → (Binary → A) → (Binary → A) → (Binary → A) → (Pairing → A) → (Unary → A) → A → Shape → A
by_shape f v c d n z (floats g) = f g
by_shape f v c d n z (values t g) = v g
by_shape f v c d n z (strings when) = z
by_shape f v c d n z (vectors ta tb g) = c g
by_shape f v c d n z (vectors_to_float g) = d g
by_shape f v c d n z (negates t g) = n g
by_shape f v c d n z negates_v = z
by_shape f v c d n z negates_s = z
by_shape f v c d n z (stores t) = z
by_shape f v c d n z stores_v = z
by_shape f v c d n z (loads t) = z
by_shape f v c d n z addresses = z
by_shape f v c d n z (stores_p t) = z
by_shape f v c d n z (branches w) = z
by_shape f v c d n z jumps = z
by_shape f v c d n z call = z
by_shape f v c d n z return = z
by_shape f v c d n z host = z

abbrev pub floats_of : Shape → Option Binary
floats_of = by_shape some (λ g. none) (λ g. none) (λ g. none) (λ g. none) none

abbrev pub values_of : Shape → Option Binary
values_of = by_shape (λ g. none) some (λ g. none) (λ g. none) (λ g. none) none

abbrev pub vectors_of : Shape → Option Binary
vectors_of = by_shape (λ g. none) (λ g. none) some (λ g. none) (λ g. none) none

abbrev pub vectors_to_float_of : Shape → Option Pairing
vectors_to_float_of = by_shape (λ g. none) (λ g. none) (λ g. none) some (λ g. none) none

abbrev pub negates_of : Shape → Option Unary
negates_of = by_shape (λ g. none) (λ g. none) (λ g. none) (λ g. none) some none

unfoldable pub float_op : ℕ → ℕ → ℕ → ℕ
float_op op = get_or (floats_of (shape_of op)) (λ a b. 0)

unfoldable pub value_op : ℕ → ℕ → ℕ → ℕ
value_op op = get_or (values_of (shape_of op)) (λ a b. 0)

unfoldable pub component_op : ℕ → ℕ → ℕ → ℕ
component_op op = get_or (vectors_of (shape_of op)) (λ a b. 0)

unfoldable pub vectors_to_float_op : ℕ → ℕ → ℕ → ℕ → ℕ → ℕ → ℕ → ℕ
vectors_to_float_op op = get_or (vectors_to_float_of (shape_of op)) (λ a0 a1 a2 b0 b1 b2. 0)

unfoldable pub not_op : ℕ → ℕ → ℕ
not_op op = get_or (negates_of (shape_of op)) (λ a. 0)

-- ---- so each is what the definition has the statement compute

pub float_op_law : (op : ℕ) {f : Binary} → shape_of op ≡ floats f → float_op op ≡ f
unfolding float_op
float_op_law op h = ap (λ (s : Shape). get_or (floats_of s) (λ a b. 0)) h

pub value_op_law : (op : ℕ) {t : ℕ} {f : Binary} → shape_of op ≡ values t f → value_op op ≡ f
unfolding value_op
value_op_law op h = ap (λ (s : Shape). get_or (values_of s) (λ a b. 0)) h

pub component_op_law : (op : ℕ) {ta tb : ℕ} {f : Binary} → shape_of op ≡ vectors ta tb f → component_op op ≡ f
unfolding component_op
component_op_law op h = ap (λ (s : Shape). get_or (vectors_of s) (λ a b. 0)) h

pub vectors_to_float_op_law : (op : ℕ) {f : Pairing} → shape_of op ≡ vectors_to_float f → vectors_to_float_op op ≡ f
unfolding vectors_to_float_op
vectors_to_float_op_law op h = ap (λ (s : Shape). get_or (vectors_to_float_of s) (λ a0 a1 a2 b0 b1 b2. 0)) h

pub not_op_law : (op : ℕ) {t : ℕ} {f : Unary} → shape_of op ≡ negates t f → not_op op ≡ f
unfolding not_op
not_op_law op h = ap (λ (s : Shape). get_or (negates_of s) (λ a. 0)) h
