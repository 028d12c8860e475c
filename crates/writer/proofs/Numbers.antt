-- Numbers, lowest byte first, and the numbers of a header. Assumes nothing.
use Rattle.std.proofs.Common.{◌≡◌, ℕ, zero, suc, ◌+◌, ◌<◌, ◌≤◌, ◌/◌, ◌%◌, ◌^◌, List, [], ◌∷◌, ◌++◌, drop, get_or, refl, arith, drop-cons, add-one, rules, Fits}
use Rattle.std.proofs.Math.ListN.{drop_of_length-le}
use Rattle.std.specs.Int.{to_le_bytes, w16, w32}
use Rattle.definition.specs.declared.FileRecord.{FileRecord}
use Rattle.definition.specs.Written.{u16_bytes, u32_bytes, bytes_of, header_numbers}
use Rattle.text.specs.declared.Writer.{Writer}
use Rattle.text.specs.Writing.{Left, left_same}
use Rattle.writing_laws.specs.ReadBack.{Each}
use Rattle.writer.specs.Header.{Small}

pub low_first_u16 : (x : ℕ) → x < 2 ^ 16 → to_le_bytes w16 x ≡ u16_bytes x
unfolding u16_bytes
low_first_u16 x h = let e : x / 256 % 256 ≡ x / 256 = omega arith in rw e refl

pub low_first_u32 : (x : ℕ) → x < 2 ^ 32 → to_le_bytes w32 x ≡ u32_bytes x
unfolding u32_bytes u16_bytes
low_first_u32 x h =
    let e0 : x % 256 ≡ x % 65536 % 256 = omega arith in
    let e1 : x / 256 % 256 ≡ x % 65536 / 256 = omega arith in
    let e2 : x / 65536 % 256 ≡ x / 65536 % 256 = refl in
    let e3 : x / 16777216 % 256 ≡ x / 65536 / 256 = omega arith in
    cc

-- ---- a header's, of which those from number i on are left

module _ (check : ℕ) (r : FileRecord) (i : ℕ) {text : List ℕ} {from w : Writer} (l : Left text (bytes_of u32_bytes (drop i (header_numbers check r))) from w) where
  pub next_number : i < 15 → Left text (u32_bytes (get_or (header_numbers check r) i 0) ++ bytes_of u32_bytes (drop (i + 1) (header_numbers check r))) from w
  unfolding header_numbers bytes_of
  next_number h = left_same l (rw (drop-cons (header_numbers check r) i 0 h, add-one) refl)

  pub no_number : 15 ≤ i → Left text [] from w
  unfolding header_numbers bytes_of
  no_number h = left_same l (rw (drop_of_length-le (header_numbers check r) {i = i} h) refl)

each_at : (P : ℕ → Type 0) (ns : List ℕ) → Each P ns → P 0 → (i : ℕ) → P (get_or ns i 0)
each_at P [] e z i = z
each_at P (n ∷ ns) e z zero = e.0
each_at P (n ∷ ns) e z (suc i) = each_at P ns e.1 z i

pub small_number : (check : ℕ) (r : FileRecord) → check < 4294967296 → Small r → (i : ℕ) → Fits w32 (get_or (header_numbers check r) i 0)
unfolding header_numbers
small_number check r h s i =
    let each : Each (λ n. n < 4294967296) (header_numbers check r) = search rules in
    record { fits = each_at (λ n. n < 4294967296) (header_numbers check r) each (omega arith) i }
