-- CELLS THAT AGREE BELOW A COUNT: document 02's R-7 has two runs with "the same old cells" and other cells from the file's count on. Writing, copying and
-- pasting below the count keep them so. Nothing here speaks of a program.
use Rattle.std.specs.Prelude.{ℕ, zero, suc, ◌+◌, ◌-◌, ◌≤◌, ◌<◌, ◌≡◌, refl, List, [], ◌∷◌, ◌++◌, true, ◌&&◌, length, take, drop, get_or, set, ltb}
use Rattle.std.proofs.Math.Path.{sym, ap}
use Rattle.std.proofs.Common.{◌∙◌, inl, inr, arith, ltb-true, length-set, take-take, get_or-take, drop-set-lt}
use Rattle.std.proofs.Math.Seq.{take-nil, take-set-lt, paste, take-append-add, length_paste_head}
use Rattle.definition.specs.Machine.{Copy, copied, copies_present}
use Rattle.definition.proofs.CheckLaws.{and_left, and_right}
use Rattle.definition.specs.Parts.{part, Present}
use Rattle.definition.proofs.Parts.{present_more, paste_none, length_pasted, drop_pasted}

-- of two lists of cells, with n old cells: `cells'` has become of `before`
pub record Agree (n : ℕ) (before cells cells' : List ℕ) : Type 0 where
  -- "the same old cells"
  pub old : take n cells' ≡ take n cells
  -- "leaves the added cells alone"
  pub added : drop n cells' ≡ drop n before
  pub many : length cells' ≡ length before

-- a part that ends below n is one of the first n
part_take : (a : ℕ) (xs : List ℕ) (n k : ℕ) → a + k ≤ n → part (take n xs) a k ≡ part xs a k
part_take zero xs n k h = take-take k n xs (omega arith)
part_take (suc a) [] n k h = rw (take-nil {A = ℕ} n) refl
part_take (suc a) (x ∷ xs) zero k h = absurd (omega arith)
part_take (suc a) (x ∷ xs) (suc n) k h = part_take a xs n k (omega arith)

module _ {n : ℕ} {before cells cells' : List ℕ} (same : Agree n before cells cells') where
  -- an old cell reads the same
  pub same_at : (i : ℕ) → i < n → get_or cells' i 0 ≡ get_or cells i 0
  same_at i h = sym (get_or-take n cells' i 0 h) ∙ ap (λ (xs : List ℕ). get_or xs i 0) same.old ∙ get_or-take n cells i 0 h

  pub same_part : (a k : ℕ) → a + k ≤ n → part cells' a k ≡ part cells a k
  same_part a k h = sym (part_take a cells' n k h) ∙ ap (λ (xs : List ℕ). part xs a k) same.old ∙ part_take a cells n k h

  pub same_present : (a k : ℕ) → Present a k n → part cells' a k ≡ part cells a k
  unfolding Present
  same_present a k (inl z) = ap (λ (i : ℕ). part cells' a i) z ∙ sym (ap (λ (i : ℕ). part cells a i) z)
  same_present a k (inr h) = same_part a k h

  -- an old cell is written
  pub agree_set : (i : ℕ) {v v' : ℕ} → i < n → v' ≡ v → Agree n before (set cells i v) (set cells' i v')
  agree_set i {v} {v'} h e =
      record {
        old =
            take-set-lt n cells' i v' h
            ∙ ap (λ (xs : List ℕ). set xs i v') same.old
            ∙ ap (λ (w : ℕ). set (take n cells) i w) e
            ∙ sym (take-set-lt n cells i v h);
        added = drop-set-lt n cells' i v' h ∙ same.added;
        many = length-set cells' i v' ∙ same.many;
      }

-- copies among the old cells
pub agree_copied : (ms : List Copy) {n : ℕ} {before cells cells' : List ℕ} → copies_present n ms ≡ true → Agree n before cells cells'
    → Agree n before (copied ms cells) (copied ms cells')
unfolding copied copies_present
agree_copied [] h same = same
agree_copied (m ∷ ms) {n} h same =
    let ends : (ltb m.from n && ltb m.to n) ≡ true = and_left (ltb m.from n && ltb m.to n) (copies_present n ms) h in
    let from : m.from < n = ltb-true m.from n (and_left (ltb m.from n) (ltb m.to n) ends) in
    let to : m.to < n = ltb-true m.to n (and_right (ltb m.from n) (ltb m.to n) ends) in
    agree_copied ms (and_right (ltb m.from n && ltb m.to n) (copies_present n ms) h) (agree_set same m.to to (same_at same m.from from))

-- the first n cells after k of them are pasted
take_pasted : (xs : List ℕ) (at : ℕ) (s : List ℕ) (k n : ℕ) → at + k ≤ n → n ≤ length xs → k ≤ length s
    → take n (paste xs at s k) ≡ take at xs ++ take k s ++ part xs (at + k) (n - (at + k))
take_pasted xs at s k n h hx hs =
    let e : n ≡ length (take at xs ++ take k s) + (n - (at + k)) = omega (arith, length_paste_head xs at s k (omega arith) hs) in
    ap (λ (i : ℕ). take i (paste xs at s k)) e ∙ take-append-add (take at xs ++ take k s) (drop (at + k) xs) (n - (at + k))

-- pasting among the old cells
pub agree_paste : {n : ℕ} {before cells cells' : List ℕ} → Agree n before cells cells' → (at : ℕ) (s : List ℕ) (k : ℕ) → Present at k n
    → n ≤ length cells → n ≤ length cells' → k ≤ length s → Agree n before (paste cells at s k) (paste cells' at s k)
unfolding Present
agree_paste {n} {before} {cells} {cells'} same at s k there hc hc' hs =
    record {
      old = old_pasted there;
      added = drop_pasted cells' at s k n there hc' hs ∙ same.added;
      many = length_pasted cells' at s k (present_more at k n (length cells') hc' there) hs ∙ same.many;
    }
  where
    old_pasted : Present at k n → take n (paste cells' at s k) ≡ take n (paste cells at s k)
    old_pasted (inl z) = ap (take n) (paste_none cells' at s k z) ∙ same.old ∙ ap (take n) (sym (paste_none cells at s k z))
    old_pasted (inr h) =
        let front : take at cells' ≡ take at cells = same_part same 0 at (omega arith) in
        let back = same_part same (at + k) (n - (at + k)) (omega arith) in
        take_pasted cells' at s k n h hc' hs
        ∙ ap (λ (xs : List ℕ). xs ++ take k s ++ part cells' (at + k) (n - (at + k))) front
        ∙ ap (λ (xs : List ℕ). take at cells ++ take k s ++ xs) back
        ∙ sym (take_pasted cells at s k n h hc hs)
