-- Writing, by whether check 13 refuses. Assumes nothing.
use Rattle.std.specs.Prelude.{Err}
use Rattle.std.proofs.Common.{◌≡◌, ℕ, List, true, false, refl, ◌∙◌}
use Rattle.definition.specs.declared.FileRecord.{FileRecord}
use Rattle.definition.specs.declared.refusal.Refusal.TheVariants.{State}
use Rattle.definition.specs.Checks.{judge, guard}
use Rattle.definition.specs.File.{file_of, contents_at}
use Rattle.definition.specs.Machine.{Config}
use Rattle.definition.specs.Load.{program_of}
use Rattle.definition.specs.Operations.{sound}
use Rattle.definition.specs.Written.{written, write_conditions, write_file, WriteOutcome, write_outcome, outcome_of}
use Rattle.writer.specs.Outcomes.{writing}

module _ (file output : List ℕ) (c : Config) where
  pub refused_13 : sound (program_of file) c ≡ false → outcome_of (Err State) output ≡ write_outcome output (write_file file output c)
  unfolding write_file write_conditions guard judge
  refused_13 e = rw e refl

  -- after it, what is written is the program where the record of the file has its lumps
  pub past_13 : (r : FileRecord) (o : WriteOutcome) → sound (program_of file) c ≡ true → r ≡ file_of file → o ≡ writing (written c.state.settings.check_number (contents_at r file)) output
      → o ≡ write_outcome output (write_file file output c)
  unfolding writing write_file write_conditions guard judge
  past_13 r o e same h = h ∙ rw (e, same) refl
