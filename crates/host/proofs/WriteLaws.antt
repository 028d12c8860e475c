-- The length of a written program has room in 32 bits.
use Rattle.std.specs.Prelude.{ℕ, ◌≡◌, List, Result, Ok}
use Rattle.std.proofs.Common.{refl, ap, arith, Fits, w32}
use Rattle.definition.specs.declared.refusal.Refusal.{Refusal}
use Rattle.definition.specs.Checks.{Checked, refused, accepted}
use Rattle.definition.specs.Machine.{Config}
use Rattle.definition.specs.Written.{Image, WriteOutcome, write_file, write_outcome, outcome_of}
use Rattle.writing_laws.specs.Loads.{accepted_writes}

pub short_length : (file output output' : List ℕ) (c : Config) (r : Result ℕ Refusal) (n : ℕ) → outcome_of r output' ≡ write_outcome output (write_file file output c) → r ≡ Ok n → Fits w32 n
short_length file output output' c r n e o = by (write_file file output c) refl (rw o at e)
  where
    by : (x : Checked Image) → write_file file output c ≡ x → outcome_of (Ok n) output' ≡ write_outcome output x → Fits w32 n
    by (refused k) h g =
        let a : accepted n ≡ refused k = ap (λ (z : WriteOutcome). z.answer) g in
        cc
    by (accepted i) h g =
        let a : accepted n ≡ accepted i.length = ap (λ (z : WriteOutcome). z.answer) g in
        let same : n ≡ i.length = cc in
        record { fits = omega (arith, (accepted_writes file output c i h).short) }
