-- What is printed, by what was answered. Assumes nothing.
use Rattle.std.specs.Prelude.{Result, Ok, Err}
use Rattle.std.proofs.Common.{◌≡◌, ℕ, ◌≤◌, List, ◌++◌, Bool, true, false, cond, not, ◌&&◌, leb, eqb, length, drop, pos, refl, ap, ◌∙◌, arith, le-leb, leb-true}
use Rattle.definition.specs.declared.refusal.Refusal.{Refusal}
use Rattle.definition.specs.Checks.{Checked, refused, accepted, judge, guard}
use Rattle.definition.specs.File.{between}
use Rattle.definition.specs.Refusals.{number}
use Rattle.definition.specs.Written.{layout, WriteOutcome, write_outcome, outcome_of}
use Rattle.definition.proofs.CheckLaws.{and_right}
use Rattle.text.specs.Output.{output, at_front}
use Rattle.text.specs.Text.{refused_line}
use Rattle.load_files.specs.LoadFile.{bytes_for, make_conditions, make_file}
use Rattle.load_files.specs.Laws.{length_file}
use Rattle.load_file.specs.declared.numbers.Numbers.{Numbers}
use Rattle.load_file.specs.Numbers.{numbers_of}
use Rattle.load_file.specs.Printed.{printed_for, printed, made_for}

module _ (out out' : List ℕ) where
  -- the text is printed whole, or is the line of the refusal, which isn't printed yet
  abbrev Prints : List ℕ → Result ℕ Refusal → Type 0
  Prints text (Ok n) = (output out' n ≡ at_front text out) × (n ≤ 8405)
  Prints text (Err r) = (refused_line (number r) ≡ text) × (out' ≡ out)

  none_made : (r : Result ℕ Refusal) → outcome_of r out' ≡ record { answer = refused 35; output = out } → Prints (refused_line 35) r
  none_made (Ok n) e =
      let answers : accepted n ≡ refused 35 = ap (λ (o : WriteOutcome). o.answer) e in
      absurd (let x : ◌≡◌ {A = ℕ} 0 1 = cc in omega arith)
  none_made (Err r) e =
      let answers : ◌≡◌ {A = Checked ℕ} (refused (number r)) (refused 35) = ap (λ (o : WriteOutcome). o.answer) e in
      let is : number r ≡ 35 = cc in
      (ap refused_line is, ap (λ (o : WriteOutcome). o.output) e)

  all_made : (bytes : List ℕ) → length bytes ≤ 8405 → (r : Result ℕ Refusal)
      → outcome_of r out' ≡ record { answer = accepted (length bytes); output = bytes ++ drop (length bytes) out }
      → Prints bytes r
  all_made bytes short (Ok n) e =
      let answers : accepted n ≡ accepted (length bytes) = ap (λ (o : WriteOutcome). o.answer) e in
      let count : n ≡ length bytes = cc in
      let leaves : out' ≡ bytes ++ drop (length bytes) out = ap (λ (o : WriteOutcome). o.output) e in
      (rw (count, leaves) refl, omega (arith, short))
  all_made bytes short (Err r) e =
      let answers : refused (number r) ≡ accepted (length bytes) = ap (λ (o : WriteOutcome). o.answer) e in
      absurd (let x : ◌≡◌ {A = ℕ} 0 1 = cc in omega arith)

  module _ (room : 8405 ≤ length out) where
    module _ (a : Numbers) where
      abbrev bytes : List ℕ
      bytes = bytes_for a.seed a.n

      abbrev accepts : Bool
      accepts = not (eqb a.seed 0) && between 1 1000 a.n

      short : accepts ≡ true → length bytes ≤ 8405
      unfolding layout
      short e =
          let few : a.n ≤ 1000 = leb-true a.n 1000 (and_right (leb 1 a.n) (leb a.n 1000) (and_right (not (eqb a.seed 0)) (between 1 1000 a.n) e)) in
          omega (arith, length_file a.seed a.n)

      accepted_made : accepts ≡ true
          → write_outcome out (make_file a.seed (pos a.n) out)
          ≡ record { answer = accepted (length bytes); output = bytes ++ drop (length bytes) out }
      unfolding make_file make_conditions guard judge
      accepted_made e = rw (e, le-leb (length bytes) (length out) (omega (arith, short e)), le-leb (length bytes) 1048576 (omega (arith, short e))) refl

      refused_made : accepts ≡ false → write_outcome out (make_file a.seed (pos a.n) out) ≡ record { answer = refused 35; output = out }
      unfolding make_file make_conditions guard judge
      refused_made e = rw e refl

      made : (r : Result ℕ Refusal) → outcome_of r out' ≡ write_outcome out (make_file a.seed (pos a.n) out) → Prints (cond accepts bytes (refused_line 35)) r
      made r e = by accepts refl
        where
          by : (b : Bool) → accepts ≡ b → Prints (cond accepts bytes (refused_line 35)) r
          by true h = rw h (all_made bytes (short h) r (e ∙ accepted_made h))
          by false h = rw h (none_made r (e ∙ refused_made h))

    pub printed_as : (line : List ℕ) (r : Result ℕ Refusal) → outcome_of r out' ≡ made_for (numbers_of line) out → Prints (printed line) r
    unfolding printed_for
    printed_as line r e = made (numbers_of line) r e
