-- A function's record as the code cuts it, and one function more of a part. Assumes nothing.
use Rattle.std.proofs.Common.{◌≡◌, ℕ, ◌<◌, List, [], ◌∷◌, ◌++◌, length, take, drop, refl, ap, arith, length-append, length-drop, zero-add}
use Rattle.std.proofs.Math.Nat.{div-eq_of_lt}
use Rattle.std.proofs.Math.ListN.{get_or-append}
use Rattle.std.proofs.Math.Seq.{drop-append_seam, drop-drop}
use Rattle.std.proofs.lemmas.List.{take_all}
use Rattle.definition.specs.File.{byte_at, records, read_function}
use Rattle.definition.specs.Written.{u16_bytes, u32_bytes, function_bytes, bytes_of}
use Rattle.functions.specs.Parts.{functions_in}
use Rattle.functions.specs.PartLaws.{function_local, records_more}
use Rattle.text.specs.declared.Writer.{Writer}
use Rattle.text.specs.Writing.{Left, left_same}
use Rattle.writing_laws.specs.Copied.{Bytes, function_parts}

zero_bytes : u32_bytes 0 ≡ 0 ∷ 0 ∷ 0 ∷ 0 ∷ []
unfolding u32_bytes u16_bytes
zero_bytes = refl

-- a copy of a record with zeros for its profile number
pub zeroed : (f : List ℕ) {g zeros : List ℕ} → Bytes f → length f ≡ 36 → g ≡ f → zeros ≡ 0 ∷ 0 ∷ 0 ∷ 0 ∷ []
    → take 12 g ++ (zeros ++ drop 4 (drop 12 g)) ≡ function_bytes (read_function f 0)
zeroed f b h e z =
    let number : u32_bytes 0 ≡ 0 ∷ 0 ∷ 0 ∷ 0 ∷ [] = zero_bytes in
    let behind : take 20 (drop 16 f) ≡ drop 16 f = take_all 20 (drop 16 f) (omega (arith, length-drop 16 f)) in
    rw (e, z, function_parts f b 0 (omega arith), number, behind, drop-drop 4 12 f) refl

-- the functions of a part's rest
module _ {text : List ℕ} (part : List ℕ) {from w : Writer} (l : Left text (bytes_of function_bytes (functions_in part)) from w) where
  pub next_function : (f rest : List ℕ) → part ≡ f ++ rest → length f ≡ 36
      → Left text (function_bytes (read_function f 0) ++ bytes_of function_bytes (functions_in rest)) from w
  unfolding bytes_of byte_at
  next_function f rest is one =
      let behind : drop 36 (f ++ rest) ≡ rest = rw (← one) (drop-append_seam f rest) in
      let here : read_function (f ++ rest) 0 ≡ read_function f 0 = function_local _ _ _ _ (record { byte = λ k h. rw zero-add (get_or-append f rest 0 k (omega arith)) }) in
      let more : functions_in part ≡ read_function f 0 ∷ functions_in rest =
      rw (is, records_more read_function 36 function_local (omega arith) (f ++ rest) (omega (arith, length-append f rest)), here, behind) refl in
      left_same l (ap (bytes_of function_bytes) more)

  pub no_function : length part < 36 → Left text [] from w
  unfolding bytes_of records
  no_function h = left_same l (rw (div-eq_of_lt h) refl)
