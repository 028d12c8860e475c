-- What `hex` encodes of a number's bytes, highest first, are its digits. Assumes nothing.
use Rattle.std.specs.Prelude.{Result, Ok, Err, IsOk, OnOk}
use Rattle.std.proofs.Common.{◌≡◌, true, false, ℕ, ◌*◌, ◌<◌, ◌/◌, ◌%◌, ◌^◌, List, length, slice_index, refl, ◌∙◌, arith}
use Rattle.std.proofs.lemmas.List.FromFn.{get_or-map-range_with_len}
use Rattle.std.specs.Int.{to_be_bytes, w32}
use Rattle.hex.specs.Hex.{lower_digits, encode_with, encode_lower}
use Rattle.text.specs.Text.{hex_digit, hex_digits, hex8}

digit : {d e : ℕ} → d < 16 → d ≡ e → slice_index lower_digits d ≡ hex_digit e
unfolding hex_digit
digit {d} {e} h same = get_or-map-range_with_len hex_digit 0 16 d e 0 h (omega (arith, same))

by_digits : (n : ℕ) → n < 2 ^ 32 → encode_lower (to_be_bytes w32 n) ≡ hex8 n
unfolding encode_with hex8 hex_digits
by_digits n h =
    let e7 : slice_index lower_digits (n / 16777216 % 256 / 16) ≡ hex_digit (n / 16 / 16 / 16 / 16 / 16 / 16 / 16 % 16) = digit (omega arith) (omega arith) in
    let e6 : slice_index lower_digits (n / 16777216 % 256 % 16) ≡ hex_digit (n / 16 / 16 / 16 / 16 / 16 / 16 % 16) = digit (omega arith) (omega arith) in
    let e5 : slice_index lower_digits (n / 65536 % 256 / 16) ≡ hex_digit (n / 16 / 16 / 16 / 16 / 16 % 16) = digit (omega arith) (omega arith) in
    let e4 : slice_index lower_digits (n / 65536 % 256 % 16) ≡ hex_digit (n / 16 / 16 / 16 / 16 % 16) = digit (omega arith) (omega arith) in
    let e3 : slice_index lower_digits (n / 256 % 256 / 16) ≡ hex_digit (n / 16 / 16 / 16 % 16) = digit (omega arith) (omega arith) in
    let e2 : slice_index lower_digits (n / 256 % 256 % 16) ≡ hex_digit (n / 16 / 16 % 16) = digit (omega arith) (omega arith) in
    let e1 : slice_index lower_digits (n % 256 / 16) ≡ hex_digit (n / 16 % 16) = digit (omega arith) (omega arith) in
    let e0 : slice_index lower_digits (n % 256 % 16) ≡ hex_digit (n % 16) = digit (omega arith) (omega arith) in
    cc

-- nor is it refused, where there is room for eight of them
pub encoded : (n : ℕ) {bytes digits : List ℕ} {E : Type 0} (r : Result (Unit {0}) E) → n < 2 ^ 32 → bytes ≡ to_be_bytes w32 n
    → (8 ≡ 2 * length bytes → IsOk r) → OnOk r (digits ≡ encode_lower bytes) → digits ≡ hex8 n
encoded n (Ok x) h e fits written = written ∙ rw e (by_digits n h)
encoded n (Err x) h e fits written = absurd (differ (fits (rw e refl)))
  where
    differ : false ≡ true → ⊥
    differ z = cc
