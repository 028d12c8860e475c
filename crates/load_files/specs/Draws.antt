-- DRAWS. Document 02, R-10: "From a 32-bit seed s other than 0, each draw replaces s three times, by s xor s shifted left 13, then s xor s shifted right 17, then
-- s xor s shifted left 5, each kept to 32 bits, and gives s."
use Rattle.std.specs.Prelude.{ℕ, zero, suc, ◌*◌, ◌/◌, ◌%◌, ◌^◌, List, [], ◌∷◌, bit_xor}

-- "each kept to 32 bits"
abbrev pub kept : ℕ → ℕ
kept x = x % 2 ^ 32

-- "s xor s shifted left", so many places
abbrev pub xor_left : ℕ → ℕ → ℕ
xor_left places s = kept (bit_xor s (s * 2 ^ places))

-- "s xor s shifted right"
abbrev pub xor_right : ℕ → ℕ → ℕ
xor_right places s = kept (bit_xor s (s / 2 ^ places))

-- what a draw from s gives, which is the s of the next draw
unfoldable pub draw : ℕ → ℕ
draw s = xor_left 5 (xor_right 17 (xor_left 13 s))

-- s after so many draws
unfoldable pub after : ℕ → ℕ → ℕ
after zero s = s
after (suc k) s = after k (draw s)

-- k things one behind the other, from s on, each made of so many draws
unfoldable pub drawn : {A : Type 0} → (ℕ → A) → ℕ → ℕ → ℕ → List A
drawn make each zero s = []
drawn make each (suc k) s = make s ∷ drawn make each k (after each s)
