-- Laws of a file's records.
use Rattle.std.specs.Prelude.{ℕ, zero, suc, ◌+◌, ◌*◌, ◌<◌, ◌≡◌, refl, List, length, get_or}
use Rattle.std.proofs.Common.{ap, ◌∙◌, arith}
use native.Mathlib.Nat.{not-suc-le-zero, le_of_suc-le-suc}
use Rattle.definition.specs.File.{records, contents_at, contents_of, file_of, u32_at}

pub length_records : {A : Type 0} (read : ℕ → A) (size n at : ℕ) → length (records read size n at) ≡ n
unfolding records
length_records read size zero at = refl
length_records read size (suc n) at = ap suc (length_records read size n (at + size))

-- record i stands i sizes behind the first
pub get_d_records : {A : Type 0} (read : ℕ → A) (size n at i : ℕ) (d : A) → i < n → get_or (records read size n at) i d ≡ read (at + size * i)
unfolding records
get_d_records read size zero at i d h = absurd (not-suc-le-zero h)
get_d_records read size (suc n) at zero d h = ap read (omega arith)
get_d_records read size (suc n) at (suc i) d h = get_d_records read size n (at + size) i d (le_of_suc-le-suc h) ∙ ap read (steps at size i)
  where
    steps : (at size i : ℕ) → at + size + size * i ≡ at + size * suc i
    steps at size i = omega (arith, native.Mathlib.Nat.mul-suc size i)

pub length_globals : (file : List ℕ) → length (contents_of file).globals ≡ (file_of file).globals.count
unfolding contents_at
length_globals file = length_records (u32_at file) 4 (file_of file).globals.count (file_of file).globals.offset
