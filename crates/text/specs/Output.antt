-- WRITING INTO A LENT BUFFER: the buffer's bytes, and the place of the next one to be written. What two writers leave, one after the other, is what one
-- writer of both texts leaves.
use Rattle.std.specs.Prelude.{ℕ, suc, ◌+◌, ◌≤◌, ◌≡◌, refl, List, [], ◌∷◌, ◌++◌, take, drop, set}
use Rattle.std.proofs.Common.{sym, ◌∙◌, subst, add-zero, add_assoc, zero-add, arith}
use Rattle.std.proofs.Math.Path.{ap}
use Rattle.std.proofs.Math.ListN.{length, length-append}
use Rattle.std.proofs.lemmas.List.Edits.{sets, sets-eq}
use Rattle.std.proofs.Math.Seq.{length-sets}

pub record Output : Type 0 where
  pub bytes : List ℕ
  pub next : ℕ

abbrev pub output : List ℕ → ℕ → Output
output b at = record { bytes = b; next = at }

-- xs stored from the next place on, and the other bytes kept
unfoldable pub put : List ℕ → Output → Output
put xs o = output (sets o.bytes o.next xs) (o.next + length xs)

-- from the next place on there are at least as many bytes as xs has
pub record Room (xs : List ℕ) (o : Output) : Type 0 where
  pub enough : o.next + length xs ≤ length o.bytes

-- a text at the front of the buffer b, and the bytes of b that it does not reach
abbrev pub at_front : List ℕ → List ℕ → Output
at_front xs b = output (xs ++ drop (length xs) b) (length xs)

-- ---- laws

sets_append : (xs ys b : List ℕ) (at : ℕ) → sets (sets b at xs) (at + length xs) ys ≡ sets b at (xs ++ ys)
sets_append [] ys b at = rw add-zero
sets_append (x ∷ xs) ys b at =
    let e : at + suc (length xs) ≡ suc at + length xs = omega arith in
    rw e (sets_append xs ys _ (suc at))

pub put_put : (xs ys : List ℕ) (o : Output) → put ys (put xs o) ≡ put (xs ++ ys) o
unfolding put
put_put xs ys o = simp (sets_append, length-append, add_assoc)

-- what a store of one byte leaves
pub put_one : (b : List ℕ) (at x : ℕ) → output (set b at x) (at + 1) ≡ put (x ∷ []) (output b at)
unfolding put
put_one b at x = refl

pub put_none : (b : List ℕ) (at : ℕ) → output b at ≡ put [] (output b at)
unfolding put
put_none b at = simp add-zero

-- a text by another name
pub room_same : {xs ys : List ℕ} {o : Output} → Room xs o → xs ≡ ys → Room ys o
room_same {o = o} h e = subst (λ (t : List ℕ). Room t o) e h

pub put_same : {xs ys : List ℕ} (o : Output) {o₁ : Output} → o₁ ≡ put ys o → xs ≡ ys → o₁ ≡ put xs o
put_same o h e = cc

-- A text in two parts: the room for it is room for the first, and after that is put for the second; to put both is to put the text.
module _ {text : List ℕ} (xs ys : List ℕ) (o : Output) (parts : text ≡ xs ++ ys) where
  pub room_first : Room text o → Room xs o
  room_first h = omega (arith, ap length parts, length-append xs ys)

  pub room_second : {o₁ : Output} → o₁ ≡ put xs o → Room text o → Room ys o₁
  unfolding put
  room_second e h = rw e (record { enough = simp length-sets (omega (arith, ap length parts, length-append xs ys)) })

  pub put_both : {o₁ o₂ : Output} → o₁ ≡ put xs o → o₂ ≡ put ys o₁ → o₂ ≡ put text o
  put_both e e' = e' ∙ ap (put ys) e ∙ put_put xs ys o ∙ ap (λ (t : List ℕ). put t o) (sym parts)

-- A text of many parts: `rest` is what is left to be put, and there is room for it.
pub record Rest (text rest : List ℕ) (from o : Output) : Type 0 where
  pub room : Room rest o
  pub same : put rest o ≡ put text from

pub rest_all : {text rest : List ℕ} {o : Output} → Room text o → text ≡ rest → Rest text rest o o
rest_all {o = o} h e = record { room = room_same h e; same = ap (λ (t : List ℕ). put t o) (sym e) }

module _ {text : List ℕ} (xs ys : List ℕ) {from o : Output} (r : Rest text (xs ++ ys) from o) where
  pub rest_room : Room xs o
  rest_room = room_first xs ys o refl r.room

  pub rest_next : {o₁ : Output} → o₁ ≡ put xs o → Rest text ys from o₁
  rest_next e = record { room = room_second xs ys o refl e r.room; same = put_both xs ys o refl e refl ∙ r.same }

pub rest_end : {text xs : List ℕ} {from o o₁ : Output} → Rest text xs from o → o₁ ≡ put xs o → o₁ ≡ put text from
rest_end r e = e ∙ r.same

-- what `put` leaves, in the bytes as they were: those before the place, the text, and those after it
pub put_at : (xs : List ℕ) (o : Output) → Room xs o
    → put xs o ≡ output (take o.next o.bytes ++ xs ++ drop (o.next + length xs) o.bytes) (o.next + length xs)
unfolding put
put_at xs o h = rw (sets-eq xs o.bytes o.next h.enough)

pub put_front : (xs b : List ℕ) {o : Output} → length xs ≤ length b → o ≡ put xs (output b 0) → o ≡ at_front xs b
put_front xs b h e = rw (e, put_at xs (output b 0) (omega arith)) (simp zero-add)
