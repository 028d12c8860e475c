-- A part of a buffer that became a text. Assumes nothing.
use Rattle.std.proofs.Common.{◌≡◌, ℕ, ◌+◌, ◌-◌, List, ◌++◌, take, drop, length, refl, append_assoc, arith}
use Rattle.std.proofs.Math.Seq.{drop-drop}
use Rattle.text.specs.Output.{output, put, Room, put_at}

pub part_put : (b xs : List ℕ) (at : ℕ) {end : ℕ} {ys : List ℕ} → Room xs (output b at) → end ≡ at + length xs → ys ≡ xs
    → output (take at b ++ (ys ++ drop (end - at) (drop at b))) end ≡ put xs (output b at)
part_put b xs at {end} room e same =
    let k : at + (end - at) ≡ at + length xs = omega arith in
    rw (same, drop-drop (end - at) at b, k, e) (rw (put_at xs (output b at) room, append_assoc (take at b) xs (drop (at + length xs) b)) refl)
