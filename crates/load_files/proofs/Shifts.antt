-- A number of 32 bits, and itself shifted: what the machine computes is the definition's. Assumes nothing.
use Rattle.std.proofs.Common.{◌≡◌, ℕ, ◌*◌, ◌/◌, ◌%◌, ◌^◌, ◌<◌, sym, ap, ◌∙◌, lt_of_le_of_lt, mod-lt, mod-eq_of_lt, pow_pos}
use lib.Bits.{bit_xor, xor_mod, xor_lt}
use lib.Pow.{shr_le}
use Rattle.load_files.specs.Draws.{kept, xor_left, xor_right, draw}

kept_lt : (x : ℕ) → kept x < 2 ^ 32
kept_lt x = mod-lt x (pow_pos 32)

left_kept : (places s : ℕ) → s < 2 ^ 32 → bit_xor s ((s * 2 ^ places) % 2 ^ 32) ≡ xor_left places s
left_kept places s h = sym (xor_mod s (s * 2 ^ places) 32 ∙ ap (λ (x : ℕ). bit_xor x ((s * 2 ^ places) % 2 ^ 32)) (mod-eq_of_lt h))

right_kept : (places s : ℕ) → s < 2 ^ 32 → bit_xor s (s / 2 ^ places) ≡ xor_right places s
right_kept places s h = sym (mod-eq_of_lt (xor_lt 32 s (s / 2 ^ places) h (lt_of_le_of_lt (shr_le s places) h)))

pub drawn_by_shifts : (s a b : ℕ) → s < 2 ^ 32 → a ≡ bit_xor s ((s * 2 ^ 13) % 2 ^ 32) → b ≡ bit_xor a (a / 2 ^ 17) → bit_xor b ((b * 2 ^ 5) % 2 ^ 32) ≡ draw s
unfolding draw
drawn_by_shifts s a b h ea eb =
    let first : a ≡ xor_left 13 s = ea ∙ left_kept 13 s h in
    let second : b ≡ xor_right 17 (xor_left 13 s) = eb ∙ rw first (right_kept 17 (xor_left 13 s) (kept_lt _)) in
    rw second (left_kept 5 (xor_right 17 (xor_left 13 s)) (kept_lt _))
