-- `streams::read_full` meets its contract: what it filled is what it consumed. Assumes nothing.
use Rattle.std.proofs.Common.{◌≡◌, ℕ, ◌+◌, ◌≤◌, List, ◌++◌, rules, length, take, sym, ap, ◌∙◌, subst, length-take-le}
use Rattle.std.proofs.Math.Seq.{take-append-add}
use Rattle.std.proofs.lemmas.List.{take-append-le}
use Rattle.std.specs.Io.KnownBytes.{Consumes}
use Rattle.std.proofs.KnownBytes.{Consumes-trans}
use borrow.Rule.Slice.PartMut.{put_mid, post_of}
use Rattle.streams.proofs.read_full.Goals as goal

-- n bytes read into the part of a buffer from a on
filled : (a k n : ℕ) (buf read : List ℕ) → a ≤ length buf → n ≤ length read → take (a + n) (put_mid a k buf read) ≡ take a buf ++ take n read
filled a k n buf read within fits =
    let rest = read ++ post_of a k buf in
    rw length-take-le at (take-append-add (take a buf) rest n) ∙ ap (λ l. take a buf ++ l) (take-append-le n read (post_of a k buf) fits)

pub loop-done-preserved : goal.loop-done-preserved
loop-done-preserved g c =
    (search rules, search rules, subst (Consumes _ _) (sym (filled _ _ _ _ _ c.loop-done.invariant.1 c.in_ok-n.ensures.bound.0)) (Consumes-trans _ _ _ _ _ c.loop-done.invariant.2 c.in_ok-n.ensures.bytes.0))
