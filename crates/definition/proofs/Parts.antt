-- Laws of lists and of copying that the proof of demand 3 rests on. Nothing here speaks of a program.
use Rattle.std.specs.Prelude.{ℕ, ◌+◌, ◌-◌, ◌≤◌, ◌<◌, ◌≡◌, refl, List, [], ◌∷◌, ◌++◌, true, ◌&&◌, length, take, drop, get_or, set, leb, ltb, eqb}
use Rattle.std.proofs.Common.{sym, ◌∙◌, ap, inl, inr, ⊎_elim, append_assoc, arith, eqb-true, leb-true, ltb-true, length-set, length-drop, take-append-drop, take_at, drop_at, length-take-le, drop-set-lt, drop-drop}
use Rattle.std.proofs.Math.Seq.{paste, paste-zero}
use Rattle.std.proofs.lemmas.List.Edits.{length-paste, drop-paste}
use Rattle.std.proofs.lemmas.List.{take-append-le, drop-append-le}
use Rattle.definition.specs.Machine.{present, Copy, copied, copies_present}
use Rattle.definition.proofs.CheckLaws.{or_cases, and_left, and_right}
use Rattle.definition.specs.Parts.{part, Present}

-- what is in the front is not changed by what stands behind
pub part_front : (xs ys : List ℕ) (a n : ℕ) → a + n ≤ length xs → part (xs ++ ys) a n ≡ part xs a n
part_front xs ys a n h =
    ap (take n) (drop-append-le a xs ys (omega arith))
    ∙ take-append-le n (drop a xs) ys (omega (arith, length-drop a xs))

-- pasting leaves what is below it
pub part_below : (d : List ℕ) (at : ℕ) (s : List ℕ) (k a n : ℕ) → at ≤ length d → a + n ≤ at → part (paste d at s k) a n ≡ part d a n
part_below d at s k a n hd h =
    let hl : a + n ≤ length (take at d) = omega (arith, length-take-le at d hd) in
    ap (λ (x : List ℕ). part x a n) (append_assoc (take at d) (take k s) (drop (at + k) d))
    ∙ part_front (take at d) (take k s ++ drop (at + k) d) a n hl
    ∙ sym (part_front (take at d) (drop at d) a n hl)
    ∙ ap (λ (x : List ℕ). part x a n) (take-append-drop at d)

-- and there holds what was pasted
pub part_pasted : (d : List ℕ) (at : ℕ) (s : List ℕ) (n : ℕ) → at ≤ length d → n ≤ length s → part (paste d at s n) at n ≡ take n s
part_pasted d at s n hd hs =
    ap (λ (x : List ℕ). part x at n) (append_assoc (take at d) (take n s) (drop (at + n) d))
    ∙ ap (take n) (drop_at (take at d) (take n s ++ drop (at + n) d) at (length-take-le at d hd))
    ∙ take_at (take n s) (drop (at + n) d) n (length-take-le n s hs)

-- ---- ranges that are present: there are none, or they lie below the count

pub present_true : (a n count : ℕ) → present a n count ≡ true → Present a n count
unfolding present Present
present_true a n count e =
    ⊎_elim
    (λ (h : eqb n 0 ≡ true). inl (eqb-true n 0 h))
    (λ (h : leb (a + n) count ≡ true). inr (leb-true (a + n) count h))
    (or_cases (eqb n 0) (leb (a + n) count) e)

pub present_more : (a n count more : ℕ) → count ≤ more → Present a n count → Present a n more
unfolding Present
present_more a n count more h (inl z) = inl z
present_more a n count more h (inr le) = inr (omega arith)

-- there are as many cells to take
pub present_source : (xs : List ℕ) (a n : ℕ) → Present a n (length xs) → n ≤ length (drop a xs)
unfolding Present
present_source xs a n (inl z) = omega arith
present_source xs a n (inr le) = omega (arith, length-drop a xs)

pub paste_none : (d : List ℕ) (at : ℕ) (s : List ℕ) (n : ℕ) → n ≡ 0 → paste d at s n ≡ d
paste_none d at s n z = ap (λ (k : ℕ). paste d at s k) z ∙ sym (paste-zero d at s)

pub length_pasted : (d : List ℕ) (at : ℕ) (s : List ℕ) (n : ℕ) → Present at n (length d) → n ≤ length s → length (paste d at s n) ≡ length d
unfolding Present
length_pasted d at s n (inl z) hs = ap length (paste_none d at s n z)
length_pasted d at s n (inr le) hs = length-paste d at s n le hs

pub part_restored : (d : List ℕ) (at : ℕ) (s : List ℕ) (n : ℕ) → Present at n (length d) → n ≤ length s → part (paste d at s n) at n ≡ take n s
unfolding Present
part_restored d at s n (inl z) hs = ap (λ (k : ℕ). part (paste d at s n) at k) z ∙ sym (ap (λ (k : ℕ). take k s) z)
part_restored d at s n (inr le) hs = part_pasted d at s n (omega arith) hs

-- pasting below a count leaves what is from the count on
pub drop_pasted : (d : List ℕ) (at : ℕ) (s : List ℕ) (n count : ℕ) → Present at n count → count ≤ length d → n ≤ length s → drop count (paste d at s n) ≡ drop count d
unfolding Present
drop_pasted d at s n count (inl z) hd hs = ap (drop count) (paste_none d at s n z)
drop_pasted d at s n count (inr le) hd hs =
    let e : count ≡ at + n + (count - (at + n)) = omega arith in
    ap (λ (k : ℕ). drop k (paste d at s n)) e
    ∙ sym (drop-drop (count - (at + n)) (at + n) (paste d at s n))
    ∙ ap (drop (count - (at + n))) (drop-paste d at s n (omega arith) hs)
    ∙ drop-drop (count - (at + n)) (at + n) d
    ∙ ap (λ (k : ℕ). drop k d) (sym e)

-- ---- copying

pub length_copied : (ms : List Copy) (cells : List ℕ) → length (copied ms cells) ≡ length cells
unfolding copied
length_copied [] cells = refl
length_copied (m ∷ ms) cells = length_copied ms (set cells m.to (get_or cells m.from 0)) ∙ length-set cells m.to (get_or cells m.from 0)

-- copying below a count leaves what is from the count on
pub drop_copied : (ms : List Copy) (cells : List ℕ) (count : ℕ) → copies_present count ms ≡ true → drop count (copied ms cells) ≡ drop count cells
unfolding copied copies_present
drop_copied [] cells count h = refl
drop_copied (m ∷ ms) cells count h =
    let front : (ltb m.from count && ltb m.to count) ≡ true = and_left (ltb m.from count && ltb m.to count) (copies_present count ms) h in
    let to : m.to < count = ltb-true m.to count (and_right (ltb m.from count) (ltb m.to count) front) in
    drop_copied ms (set cells m.to (get_or cells m.from 0)) count (and_right (ltb m.from count && ltb m.to count) (copies_present count ms) h)
    ∙ drop-set-lt count cells m.to (get_or cells m.from 0) to
