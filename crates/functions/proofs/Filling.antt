-- One record more is filled in. Assumes nothing.
use Rattle.std.proofs.Common.{ℕ, zero, suc, ◌+◌, ◌*◌, ◌<◌, ◌≡◌, sym, ◌∙◌, ap, List, [], ◌∷◌, ◌++◌, length, get_or, drop, arith, add-one}
use Rattle.std.proofs.Math.Nat.{mul-suc, zero-add}
use Rattle.std.proofs.Math.ListN.{set}
use Rattle.std.proofs.Math.Seq.{drop-cons, set_at, append_snoc}
use Rattle.definition.specs.File.{records}
use Rattle.definition.proofs.RecordLaws.{length_records}

module _ {A : Type 0} (read : ℕ → A) (size : ℕ) where
  records_snoc : (n at : ℕ) → records read size (suc n) at ≡ records read size n at ++ (read (at + size * n) ∷ [])
  unfolding records
  records_snoc zero at = let e : at + size * 0 ≡ at = omega arith in rw e
  records_snoc (suc n) at =
      let e : at + size + size * n ≡ at + size * suc n = omega (arith, mul-suc size n) in
      ap (λ (xs : List A). read at ∷ xs) (records_snoc n (at + size) ∙ ap (λ (k : ℕ). records read size n (at + size) ++ (read k ∷ [])) e)

  pub filled : (n : ℕ) (v : A) (cells old : List A) → n < length old → cells ≡ records read size n 0 ++ drop n old → v ≡ read (size * n)
      → set cells n v ≡ records read size (n + 1) 0 ++ drop (n + 1) old
  filled n v cells old h e is =
      ap (λ (xs : List A). set xs n v) (e ∙ ap (λ (xs : List A). records read size n 0 ++ xs) (drop-cons old n v h))
      ∙ set_at (records read size n 0) (get_or old n v) (drop (suc n) old) v n (length_records read size n 0)
      ∙ sym (append_snoc (records read size n 0) v (drop (suc n) old))
      ∙ rw (add-one n, records_snoc n 0, zero-add, is)
