-- What is answered, by the tests that decide it. Assumes nothing.
use Rattle.std.specs.Prelude.{Result, Err}
use Rattle.std.proofs.Common.{◌≡◌, ℕ, true, false, not, ◌&&◌, eqb, List, ℤ, pos, negsuc, refl, ◌∙◌}
use Rattle.definition.specs.declared.refusal.Refusal.{Refusal}
use Rattle.definition.specs.declared.refusal.Refusal.TheVariants.{LoadFile}
use Rattle.definition.specs.Checks.{judge, guard}
use Rattle.definition.specs.File.{between}
use Rattle.definition.specs.Statements.{place_of}
use Rattle.definition.specs.Operations.{natural, permitted}
use Rattle.definition.specs.Written.{write_outcome, outcome_of}
use Rattle.writer.specs.Outcomes.{writing}
use Rattle.load_files.specs.LoadFile.{bytes_for, make_conditions, make_file}

place_permitted : (n : ℤ) (most : ℕ) → permitted n most ≡ between 1 most (place_of 0 n)
place_permitted (pos i) most = refl
place_permitted (negsuc i) most = refl

place_natural : (n : ℤ) → natural n ≡ place_of 0 n
place_natural (pos i) = refl
place_natural (negsuc i) = refl

module _ (seed : ℕ) (n : ℤ) (out : List ℕ) (count : ℕ) (counted : count ≡ place_of 0 n) where
  by_count : (not (eqb seed 0) && permitted n 1000) ≡ (not (eqb seed 0) && between 1 1000 count)
  by_count = rw (place_permitted n 1000, counted) refl

  pub refused_35 : (not (eqb seed 0) && between 1 1000 count) ≡ false → outcome_of (Err LoadFile) out ≡ write_outcome out (make_file seed n out)
  unfolding make_file make_conditions guard judge
  refused_35 e = rw (by_count, e) refl

  pub permitted_made : (not (eqb seed 0) && between 1 1000 count) ≡ true → (r : Result ℕ Refusal) (out' : List ℕ) → outcome_of r out' ≡ writing (bytes_for seed count) out
      → outcome_of r out' ≡ write_outcome out (make_file seed n out)
  unfolding make_file make_conditions writing guard judge
  permitted_made fits r out' e =
      let same : natural n ≡ count = place_natural n ∙ rw counted refl in
      e ∙ rw (by_count, fits, same) refl
