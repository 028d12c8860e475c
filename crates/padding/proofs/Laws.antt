-- What the padding program writes and prints, by what was found out of the file. Assumes nothing.
use Rattle.std.proofs.Common.{ℕ, zero, suc, ◌-◌, ◌≤◌, ◌<◌, ◌≡◌, refl, sym, ap, List, [], ◌∷◌, ◌++◌, Bool, true, false, length, drop, leb, arith, le-leb, leb-true}
use Rattle.std.proofs.lemmas.Bool.{lt-leb}
use Rattle.std.specs.Prelude.{Result, Ok, Err}
use Rattle.definition.specs.declared.FileRecord.{FileRecord}
use Rattle.definition.specs.declared.refusal.Refusal.{Refusal}
use Rattle.definition.specs.declared.refusal.Refusal.TheVariants.{FileLength}
use Rattle.definition.specs.Checks.{Conditions, ◌otherwise◌, judge, Checked, refused, accepted, decided, guard}
use Rattle.definition.specs.Refusals.{number}
use Rattle.definition.specs.File.{check_number, least_to_pad, most_cells, saved_store, file_of, contents_at}
use Rattle.definition.specs.Load.{file_conditions}
use Rattle.definition.specs.Written.{written, padded, padded_file, room_conditions, placed, Image, WriteOutcome, write_outcome, outcome_of}
use Rattle.definition.proofs.CheckLaws.{judge_passed, all_back}
use Rattle.definition.proofs.RecordLaws.{length_globals}
use Rattle.definition.proofs.RefusalLaws.{numbered}
use Rattle.text.specs.Output.{Output, output, at_front}
use Rattle.text.specs.Text.{refused_line}
use Rattle.loader.proofs.Each.{holds, judge_stop, judge_next}
use Rattle.padding.specs.Padding.{pad_conditions, pad_text}

abbrev loading : List ℕ → Conditions
loading file = file_conditions least_to_pad check_number file 0 most_cells saved_store 0

abbrev room : List ℕ → Conditions
room file = (leb (length (padded_file file)) 65536 otherwise 34) ∷ []

-- where nothing refuses, the padded file is short enough
fits : (file : List ℕ) → judge (pad_conditions file) ≡ 0 → length (padded_file file) ≤ 65536
unfolding pad_conditions
fits file e = leb-true _ _ (all_back (loading file) (room file) (judge_passed (pad_conditions file) e).1).0

module _ (file out : List ℕ) where
  abbrev image : Image
  image = placed (padded_file file) out

  abbrev wanted : WriteOutcome
  wanted = write_outcome out (guard (pad_conditions file) image)

  -- ---- what is written

  refuses : (r : Refusal) → number r ≡ judge (pad_conditions file) → outcome_of (Err r) out ≡ wanted
  unfolding guard
  refuses r e = rw (← e) (by (number r) (numbered r))
    where
      outcome : Checked ℕ → WriteOutcome
      outcome answer = record { answer = answer; output = out }

      by : (n : ℕ) → (n ≡ 0 → ⊥) → outcome (refused n) ≡ write_outcome out (decided n image)
      by zero z = absurd (z refl)
      by (suc n) z = refl

  pub too_long : 65536 < length file → outcome_of (Err FileLength) out ≡ wanted
  unfolding pad_conditions judge
  too_long h = refuses FileLength (rw (lt-leb (length file) 65536 h))

  module _ (few : length file ≤ 65536) where
    after_length : (n : ℕ) → n ≡ judge (loading file ++ room file) → n ≡ judge (pad_conditions file)
    unfolding pad_conditions
    after_length n e = holds _ 1 _ n (le-leb (length file) 65536 few) e

    pub load_refused : (r : Refusal) → number r ≡ judge (loading file) → outcome_of (Err r) out ≡ wanted
    load_refused r e = refuses r (after_length _ (judge_stop (loading file) (room file) _ (numbered r) e))

    -- the room of the buffer is under every other bound
    pub file_written : 0 ≡ judge (loading file) → length out ≡ 65536 → write_outcome out (guard (room_conditions (padded_file file) (length out)) image) ≡ wanted
    unfolding guard judge
    file_written e size = rw size (by (leb n 65536) refl)
      where
        n : ℕ
        n = length (padded_file file)

        by : (b : Bool) → leb n 65536 ≡ b → write_outcome out (guard (room_conditions (padded_file file) 65536) image) ≡ wanted
        by true f =
            let all : 0 ≡ judge (pad_conditions file) = after_length 0 (judge_next (loading file) (room file) 0 (sym e) (rw f)) in
            rw (f, le-leb n 1048576 (omega (arith, leb-true n 65536 f)), ← all) refl
        by false f =
            let all : 34 ≡ judge (pad_conditions file) = after_length 34 (judge_next (loading file) (room file) 34 (sym e) (rw f)) in
            rw (f, ← all) refl

  -- ---- what is printed

  abbrev Printed : Result ℕ Refusal → List ℕ → Type 0
  Printed (Ok n) out' = (output out' n ≡ at_front (pad_text file) out) × (n ≤ 65536)
  Printed (Err r) out' = (refused_line (number r) ≡ pad_text file) × (out' ≡ out)

  pub printed : (r : Result ℕ Refusal) (out' : List ℕ) → outcome_of r out' ≡ wanted → Printed r out'
  unfolding guard pad_text
  printed r out' = by (judge (pad_conditions file)) refl r
    where
      by : (k : ℕ) → judge (pad_conditions file) ≡ k → (r : Result ℕ Refusal) → outcome_of r out' ≡ write_outcome out (decided k image) → Printed r out'
      by zero z (Ok n) e =
          let answers : accepted n ≡ accepted (length (padded_file file)) = ap (λ (o : WriteOutcome). o.answer) e in
          let count : n ≡ length (padded_file file) = cc in
          let leaves : out' ≡ padded_file file ++ drop (length (padded_file file)) out = ap (λ (o : WriteOutcome). o.output) e in
          rw z (rw (count, leaves) refl, omega (arith, fits file z))
      by zero z (Err r) e =
          let answers : refused (number r) ≡ accepted (length (padded_file file)) = ap (λ (o : WriteOutcome). o.answer) e in
          absurd (let x : ◌≡◌ {A = ℕ} 0 1 = cc in omega arith)
      by (suc k) z (Ok n) e =
          let answers : accepted n ≡ refused (suc k) = ap (λ (o : WriteOutcome). o.answer) e in
          absurd (let x : ◌≡◌ {A = ℕ} 0 1 = cc in omega arith)
      by (suc k) z (Err r) e =
          let answers : ◌≡◌ {A = Checked ℕ} (refused (number r)) (refused (suc k)) = ap (λ (o : WriteOutcome). o.answer) e in
          let is : number r ≡ suc k = cc in
          rw z (rw is refl, ap (λ (o : WriteOutcome). o.output) e)

-- the padded file, in the words of the writer
pub padded_as : (file : List ℕ) (r : FileRecord) (added : ℕ) → r ≡ file_of file → added ≡ 64 - r.globals.count
    → written check_number (padded added (contents_at r file)) ≡ padded_file file
padded_as file r added same e = rw (e, same, length_globals file)

-- a text at the front of the buffer, by another name
pub at_front_law : {o : Output} {t s : List ℕ} (b : List ℕ) → o ≡ at_front t b → t ≡ s → o ≡ at_front s b
at_front_law b e h = rw (e, h)
