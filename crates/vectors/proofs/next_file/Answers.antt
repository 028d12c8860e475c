use Rattle.std.proofs.Common.{◌∙◌, []}
use Rattle.std.proofs.Math.Path.{refl}
use Rattle.vectors.proofs.next_file.Goals as goal
use Rattle.vectors.proofs.next_file.Goals.{in-text, in_default+in_ok-file-in_default}

pub returns : goal.returns
returns c =
    let first = c.in_ok-length.ensures in
    let second = c.in_ok-digits.ensures in
    let resized = c.in_ok-resize.ensures.items in
    let n = first.2.0.1 in
    elim c.match-branch.branch [
      | in-text w ↦ (c.next_number.new.words, (first.0, first.1, (c.in_ok-digits.digits, second, ([], (λ dash. refl, λ other. absurd (other w.in-text.is)), resized ∙ rw (n, w.file-is, w.new-file.ensures.len, w.new-file.ensures.items) refl))))
      | in_default+in_ok-file-in_default w ↦
          let file = w.in_ok-file-in_default in
          (c.next_number.new.words, (first.0, first.1, (c.in_ok-digits.digits, second, (file.file.items, (λ dash. absurd (w.in_default.not-text dash), λ other. file.ensures.ok), resized ∙ rw (n, w.file-is, file.file.ok.0) refl))))
    ]
