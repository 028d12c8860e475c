-- Laws of the opcodes' shapes: the arms of a match on an opcode are rows of the definition's table. Assumes nothing.
use Prim.Native.Nat.{ℕ, ◌/◌, ◌%◌, ◌^◌, ◌<◌, ◌≤◌}
use mathlib.Core.Path.{◌≡◌, refl, sym}
use mathlib.Core.Logic.{◌⊎◌}
use mathlib.Core.List.{List}
use mathlib.Core.Option.{get_or}
use mathlib.Core.Bool.{Bool, true, false, not, ◌&&◌, ◌||◌, beq}
use lib.Dec.{eqb, leb, ltb}
use native.Mathlib.Omega.{arith}
use borrow.Author.Tests.{eq-eqb, ne_eqb, le-leb, lt-leb, lt-ltb}
use native.Mathlib.Nat.{zero-add}
use Rattle.definition.specs.Statements.{Shape, floats, call, host, opcodes, shape_of}
use Rattle.definition.specs.StatementLaws.{every}
use Rattle.definition.proofs.StatementLaws.{every_at}
use Rattle.floats.specs.Opcodes.{floats_of, float_op}
use Rattle.floats.proofs.Opcodes.{among, Missed, missed}
use Rattle.execution.specs.declared.shapes.Shape.TheVariants.{Call, Host}
use Rattle.execution.specs.Shapes.{is_floats, is_call, is_host, shape_as}

-- a test of each row of the table holds of each opcode's
row : (f : ℕ → Shape → Bool) (op : ℕ) → op < 66 → every f 0 opcodes ≡ true → f op (shape_of op) ≡ true
unfolding shape_of opcodes
row f op h t = rw zero-add at (every_at f host opcodes 0 t op h)

-- ---- the bit of an opcode says whether it makes a float of two floats

module _ (op : ℕ) (known : op < 66) where
  same : (a b : Bool) → beq a b ≡ true → a ≡ b
  same true true e = refl
  same true false e = sym e
  same false true e = e
  same false false e = refl

  abbrev bit : ℕ → Bool
  bit n = eqb n 64 || eqb (13835058055297926498 / 2 ^ (n % 64) % 2) 1

  bit_is : bit op ≡ is_floats (shape_of op)
  unfolding opcodes
  bit_is = same _ _ (row (λ n s. beq (bit n) (is_floats s)) op known refl)

  pub bit_and_is : op ≡ 64 → true ≡ is_floats (shape_of op)
  bit_and_is e = rw (eq-eqb op 64 e) at bit_is

  pub other_bit_is : (op ≡ 64 → ⊥) → eqb (13835058055297926498 / 2 ^ (op % 64) % 2) 1 ≡ is_floats (shape_of op)
  other_bit_is e = rw (ne_eqb op 64 e) at bit_is

-- what the table has for such an opcode is what it does with two floats
pub floats_are : (op : ℕ) → is_floats (shape_of op) ≡ true → floats (float_op op) ≡ shape_of op
unfolding float_op
floats_are op e = go (shape_of op) e
  where
    go : (s : Shape) → is_floats s ≡ true → floats (get_or (floats_of s) (λ a b. 0)) ≡ s
    go s e = grind arith

-- ---- Call0 to Call8, by their range

abbrev pub is_call_number : ℕ → Bool
is_call_number op = leb 51 op && leb op 59

-- a shape is a Call's, or what goes to the host, or another
transfers : (s : Shape) → (call ≡ s) ⊎ ((host ≡ s) ⊎ ((is_call s ≡ false) × (is_host s ≡ false)))
transfers s = grind arith

pub call_shape : (s : Shape) → is_call s ≡ true → call ≡ s
call_shape s e = grind arith

module _ (op : ℕ) (known : op < 66) where
  pub call_number_is : is_call_number op ≡ is_call (shape_of op)
  unfolding opcodes
  call_number_is = same op known _ _ (row (λ n s. beq (is_call_number n) (is_call s)) op known refl)

  pub host_number_is : eqb op 60 ≡ is_host (shape_of op)
  unfolding opcodes
  host_number_is = same op known _ _ (row (λ n s. beq (eqb n 60) (is_host s)) op known refl)

pub is_call_law : (op : ℕ) → op < 66 → is_call_number op ≡ true → shape_as Call op ≡ shape_of op
unfolding opcodes
is_call_law op h e = call_shape (shape_of op) (rw e at (row (λ n s. not (is_call_number n) || is_call s) op h refl))

-- ---- the last arm

host_is : (s : Shape) → is_host s ≡ true → host ≡ s
host_is s e = grind arith

-- the test, over the rows from `low` up to below `high`: an opcode that isn't listed, is no Call and doesn't make a float of two, goes to the host
abbrev pub listed_or_host : ℕ → ℕ → List ℕ → ℕ → Shape → Bool
listed_or_host low high ks op s = not (leb low op && ltb op high) || (is_floats s || (is_call_number op || (among ks op || is_host s)))

pub rest : (low high : ℕ) (ks : List ℕ) (op : ℕ) → op < 66 → low ≤ op → op < high → is_floats (shape_of op) ≡ false → is_call_number op ≡ false
    → every (listed_or_host low high ks) 0 opcodes ≡ true → Missed op (Unit {0}) ks → shape_as Host op ≡ shape_of op
rest low high ks op h from to other apart t m =
    host_is (shape_of op) (rw (le-leb low op from, lt-ltb op high to, other, apart, (missed op (Unit {0}) ks m).1) at (row (listed_or_host low high ks) op h t))

-- no Call stands before the Stores
pub no_call_before : (op : ℕ) → op < 31 → is_call_number op ≡ false
no_call_before op h = rw (lt-leb 51 op (omega arith))
