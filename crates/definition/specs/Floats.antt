-- FLOATS. Document 01: "Floats are IEEE 754 single, rounded once per operation; a NaN made by arithmetic is stored as 7fc00000. Comparisons give 1.0
-- or 0.0." A cell holds the bits of a float; the arithmetic is the library's `lib.Ieee`, whose `to_bits` writes a NaN as 7fc00000.
use Rattle.std.specs.Prelude.{ℕ, ◌+◌, ◌*◌, ◌/◌, ◌%◌, Bool, false, not, ◌&&◌, ◌||◌, cond, leb, ltb, eqb, ℤ, Float}
use Rattle.std.proofs.Math.Option.{Option, none, some}
use Rattle.std.specs.Float.Ieee as Ieee
use Rattle.std.specs.Float.{nan, inf, fin, binary32}
use Rattle.std.specs.Int.Bits.{bit_and, bit_or}
use Rattle.std.specs.Int.{w32}
use Rattle.std.proofs.Common.{to_z, of_z}

-- the float of a cell, and the cell of a float
abbrev pub value : ℕ → Float
value x = Ieee.of_bits binary32 x

abbrev pub cell : Float → ℕ
cell v = Ieee.to_bits binary32 v

-- an operation on floats as one on cells
abbrev pub on_cells : (Float → Float → Float) → ℕ → ℕ → ℕ
on_cells op a b = cell (op (value a) (value b))

abbrev pub add_f : ℕ → ℕ → ℕ
add_f = on_cells (Ieee.add binary32)

abbrev pub sub_f : ℕ → ℕ → ℕ
sub_f = on_cells (Ieee.sub binary32)

abbrev pub mul_f : ℕ → ℕ → ℕ
mul_f = on_cells (Ieee.mul binary32)

abbrev pub div_f : ℕ → ℕ → ℕ
div_f = on_cells (Ieee.div binary32)

-- "Comparisons give 1.0 or 0.0"
abbrev pub flag : Bool → ℕ
flag b = cond b 0x3f800000 0

-- a comparison of floats as one on cells. "Floats are IEEE 754 single": +0 and -0 are equal, and of a NaN only Ne is true. Which opcode compares how
-- is globals.rs's and pr_exec.c's
abbrev pub on_flags : (Float → Float → Bool) → ℕ → ℕ → ℕ
on_flags test a b = flag (test (value a) (value b))

abbrev pub eq_f : ℕ → ℕ → ℕ
eq_f = on_flags Ieee.eq

abbrev pub ne_f : ℕ → ℕ → ℕ
ne_f = on_flags Ieee.ne

abbrev pub le_f : ℕ → ℕ → ℕ
le_f = on_flags Ieee.le

abbrev pub ge_f : ℕ → ℕ → ℕ
ge_f a b = le_f b a

abbrev pub lt_f : ℕ → ℕ → ℕ
lt_f = on_flags Ieee.lt

abbrev pub gt_f : ℕ → ℕ → ℕ
gt_f a b = lt_f b a

-- "the float is +0 or -0 (so on NaN)": a NaN is not zero
abbrev pub is_zero : ℕ → Bool
is_zero x = Ieee.eq (value x) (value 0)

-- And, Or and NotF compare with zero (globals.rs, pr_exec.c)
abbrev pub and_f : ℕ → ℕ → ℕ
and_f a b = flag (not (is_zero a) && not (is_zero b))

abbrev pub or_f : ℕ → ℕ → ℕ
or_f a b = flag (not (is_zero a) || not (is_zero b))

abbrev pub not_f : ℕ → ℕ
not_f a = flag (is_zero a)

-- "toward zero into a signed 32-bit whole number, saturating, NaN to 0"
abbrev pub whole : ℕ → ℤ
whole x = Ieee.to_signed 31 (value x)

-- an operation on the bits of two's complement, "and the result back to the nearest float, ties to even"
abbrev pub on_bits : (ℕ → ℕ → ℕ) → ℤ → ℤ → ℤ
on_bits op a b = to_z w32 (op (of_z w32 a) (of_z w32 b))

abbrev pub bit_and_f : ℕ → ℕ → ℕ
bit_and_f a b = cell (Ieee.of_int binary32 (on_bits bit_and (whole a) (whole b)))

abbrev pub bit_or_f : ℕ → ℕ → ℕ
bit_or_f a b = cell (Ieee.of_int binary32 (on_bits bit_or (whole a) (whole b)))

-- ---- vectors, by their three cells

-- "MulV starts from +0 and adds three products in order"
abbrev pub mul_v : ℕ → ℕ → ℕ → ℕ → ℕ → ℕ → ℕ
mul_v a0 a1 a2 b0 b1 b2 =
    cell
    (Ieee.add binary32
    (Ieee.add binary32 (Ieee.add binary32 (value 0) (Ieee.mul binary32 (value a0) (value b0))) (Ieee.mul binary32 (value a1) (value b1)))
    (Ieee.mul binary32 (value a2) (value b2)))

-- EqV, NeV: all three components (globals.rs, pr_exec.c)
abbrev pub same_v : ℕ → ℕ → ℕ → ℕ → ℕ → ℕ → Bool
same_v a0 a1 a2 b0 b1 b2 = Ieee.eq (value a0) (value b0) && Ieee.eq (value a1) (value b1) && Ieee.eq (value a2) (value b2)

abbrev pub eq_v : ℕ → ℕ → ℕ → ℕ → ℕ → ℕ → ℕ
eq_v a0 a1 a2 b0 b1 b2 = flag (same_v a0 a1 a2 b0 b1 b2)

abbrev pub ne_v : ℕ → ℕ → ℕ → ℕ → ℕ → ℕ → ℕ
ne_v a0 a1 a2 b0 b1 b2 = flag (not (same_v a0 a1 a2 b0 b1 b2))

-- NotV: of a vector of three zeros 1.0 (globals.rs, pr_exec.c)
abbrev pub not_v : ℕ → ℕ → ℕ → ℕ
not_v a0 a1 a2 = flag (is_zero a0 && is_zero a1 && is_zero a2)

-- ---- entity, string and function numbers: "compare string numbers", "string number 0"; of entities and functions likewise (globals.rs, pr_exec.c)

abbrev pub eq_n : ℕ → ℕ → ℕ
eq_n a b = flag (eqb a b)

abbrev pub ne_n : ℕ → ℕ → ℕ
ne_n a b = flag (not (eqb a b))

abbrev pub not_n : ℕ → ℕ
not_n a = flag (eqb a 0)

-- ---- document 02, R-1: "Builtins 43, 37, 38 and 36 are now done by the machine": fabs, floor, ceil and rint

-- whether a magnitude with a fraction goes up to the next whole number, and not down: by whether the number is negative, and whether the fraction is a
-- half or more
abbrev pub Rule : Type 0
Rule = Bool → Bool → Bool

-- The magnitude is the fraction n / d. "Under the other three a zero result takes the argument's sign and an infinity is unchanged. A NaN gives
-- 7fc00000": the result has the argument's sign. A whole number that a float's magnitude goes to is a float's, so that `round` is exact.
unfoldable pub rounded : Rule → Float → Float
rounded goes_up nan = nan
rounded goes_up (inf s) = inf s
rounded goes_up (fin s m e) =
    let n = m * Ieee.up e in
    let d = Ieee.down e in
    let up = ltb 0 (n % d) && goes_up s (leb d (n % d * 2)) in
    Ieee.round binary32 s (n / d + cond up 1 0) 1

-- down, so that the magnitude of a negative number goes up
abbrev pub floor_f : ℕ → ℕ
floor_f x = cell (rounded (λ negative half. negative) (value x))

-- up
abbrev pub ceil_f : ℕ → ℕ
ceil_f x = cell (rounded (λ negative half. not negative) (value x))

-- "Rint goes to the nearest whole number, halves away from zero"
abbrev pub rint_f : ℕ → ℕ
rint_f x = cell (rounded (λ negative half. half) (value x))

-- "Fabs clears the sign"
unfoldable pub absolute : Float → Float
absolute nan = nan
absolute (inf s) = inf false
absolute (fin s m e) = fin false m e

abbrev pub fabs_f : ℕ → ℕ
fabs_f x = cell (absolute (value x))

-- by the builtin's number
unfoldable pub rounding_of : ℕ → Option (ℕ → ℕ)
rounding_of n = cond (eqb n 43) (some fabs_f) (cond (eqb n 37) (some floor_f) (cond (eqb n 38) (some ceil_f) (cond (eqb n 36) (some rint_f) none)))
