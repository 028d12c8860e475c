-- WHAT IS ANSWERED, and the output buffer after it: "A seed of 0 or another n is refused 35, then a short output buffer 34; nothing is written."
use Rattle.std.specs.Prelude.{ℕ, ◌+◌, ◌*◌, ◌≤◌, ◌<◌, ◌≡◌, List, ◌++◌, ℤ, pos, negsuc, drop}
use Rattle.std.proofs.Math.Path.{refl}
use Rattle.std.proofs.Math.Bool.{and-false}
use Rattle.std.proofs.Common.{arith}
use borrow.Author.Tests.{le-leb, lt-leb, ne_eqb}
use Rattle.std.proofs.Math.ListN.{length}
use Rattle.definition.specs.Checks.{judge, refused, accepted, guard}
use Rattle.definition.specs.Written.{layout, WriteOutcome, write_outcome}
use Rattle.load_files.specs.LoadFile.{bytes_for, make_conditions, make_file}
use Rattle.load_files.specs.Laws.{length_file}

-- its length: header, statements, functions, strings and cells
pub length_is : (seed n : ℕ) → length (bytes_for seed n) ≡ 60 + 8 * (n + 2) + 36 * 2 + 1 + 4 * 64
unfolding layout
length_is seed n = omega (arith, length_file seed n)

module _ (output : List ℕ) where
  -- the answer, with the output buffer as it was
  abbrev refuses : ℕ → WriteOutcome
  refuses number = record { answer = refused number; output = output }

  -- 35, whatever the output buffer is
  pub no_seed : (n : ℤ) → write_outcome output (make_file 0 n output) ≡ refuses 35
  unfolding make_file make_conditions guard judge
  no_seed n = refl

  module _ (seed : ℕ) (some : seed ≡ 0 → ⊥) where
    pub none : write_outcome output (make_file seed (pos 0) output) ≡ refuses 35
    unfolding make_file make_conditions guard judge
    none = rw (ne_eqb seed 0 some) refl

    pub negative : (n : ℕ) → write_outcome output (make_file seed (negsuc n) output) ≡ refuses 35
    unfolding make_file make_conditions guard judge
    negative n = rw (ne_eqb seed 0 some) refl

    pub too_many : (n : ℕ) → 1000 < n → write_outcome output (make_file seed (pos n) output) ≡ refuses 35
    unfolding make_file make_conditions guard judge
    too_many n h = rw (ne_eqb seed 0 some, lt-leb n 1000 h, and-false) refl

    module _ (n : ℕ) (least : 1 ≤ n) (most : n ≤ 1000) where
      pub short_output : length output < length (bytes_for seed n) → write_outcome output (make_file seed (pos n) output) ≡ refuses 34
      unfolding make_file make_conditions guard judge
      short_output h = rw (ne_eqb seed 0 some, le-leb 1 n least, le-leb n 1000 most, lt-leb (length (bytes_for seed n)) (length output) h) refl

      pub makes : length (bytes_for seed n) ≤ length output
          → write_outcome output (make_file seed (pos n) output)
          ≡ record { answer = accepted (length (bytes_for seed n)); output = bytes_for seed n ++ drop (length (bytes_for seed n)) output }
      unfolding make_file make_conditions guard judge
      makes h =
          let short : length (bytes_for seed n) ≤ 1048576 = omega (arith, length_is seed n) in
          rw (ne_eqb seed 0 some, le-leb 1 n least, le-leb n 1000 most, le-leb (length (bytes_for seed n)) (length output) h, le-leb (length (bytes_for seed n)) 1048576 short) refl
