-- WRITERS: a lent buffer and a place in it, and what it is to have written a text there. The buffer stays the one that was lent, so its lender sees what was
-- stored.
use Rattle.std.specs.Prelude.{ℕ, ◌+◌, ◌≤◌, ◌≡◌, List, [], ◌∷◌, ◌++◌, length}
use Rattle.std.proofs.Common.{arith, refl, ◌∙◌, sym, subst, append_assoc, append-nil, length-append}
use Rattle.std.proofs.Math.Path.{ap}
use Rattle.std.proofs.Math.Seq.{length-sets}
use Rattle.text.specs.declared.Writer.{Writer}
use Rattle.text.specs.Output.{Output, output, put, Room, room_first, put_none, put_both, at_front, put_front}

abbrev pub at_place : Writer → Output
at_place w = output w.buf.now w.at

pub record Wrote (xs : List ℕ) (before after : Writer) : Type 0 where
  pub same_buffer : after.buf.ghost_name ≡ before.buf.ghost_name
  pub stored : at_place after ≡ put xs (at_place before)
  -- so the place is past the text, in a buffer as long as it was
  pub past : after.at ≡ before.at + length xs
  pub size : length after.buf.now ≡ length before.buf.now

-- ---- laws

pub wrote : {xs : List ℕ} {before after : Writer} → after.buf.ghost_name ≡ before.buf.ghost_name → at_place after ≡ put xs (at_place before) → Wrote xs before after
unfolding put
wrote {xs} {before} {after} same e =
    record {
      same_buffer = same;
      stored = e;
      past = ap (λ (o : Output). o.next) e;
      size = ap (λ (o : Output). length o.bytes) e ∙ length-sets before.buf.now before.at xs;
    }

-- a text by another name
pub wrote_same : {xs ys : List ℕ} {before after : Writer} → Wrote xs before after → xs ≡ ys → Wrote ys before after
wrote_same {before = before} {after = after} h e = subst (λ (t : List ℕ). Wrote t before after) e h

-- a text and then another
pub wrote_both : {xs ys : List ℕ} {before between after : Writer} → Wrote xs before between → Wrote ys between after → Wrote (xs ++ ys) before after
wrote_both {xs} {ys} {before} h h' = wrote (h'.same_buffer ∙ h.same_buffer) (put_both xs ys (at_place before) refl h.stored h'.stored)

-- a byte and then a text
pub wrote_first : {x : ℕ} {xs : List ℕ} {before between after : Writer} → Wrote (x ∷ []) before between → Wrote xs between after → Wrote (x ∷ xs) before after
wrote_first h h' = wrote_both h h'

-- written from the front on, in a buffer that its lender has back
pub wrote_front : {xs b b' : List ℕ} {before after : Writer} → Wrote xs before after → before.at ≡ 0 → before.buf.now ≡ b → b' ≡ after.buf.now → length xs ≤ length b
    → output b' after.at ≡ at_front xs b
wrote_front {xs} {b} h front same back room = rw back (put_front xs b room (rw (front, same) at h.stored))

-- A text that is written part by part: `rest` is what is left to be written.
pub record Left (text rest : List ℕ) (from w : Writer) : Type 0 where
  pub before : List ℕ
  pub parts : text ≡ before ++ rest
  pub written : Wrote before from w

pub left_all : {text rest : List ℕ} {w : Writer} → text ≡ rest → Left text rest w w
left_all {w = w} e = record { before = []; parts = e; written = wrote refl (put_none w.buf.now w.at) }

pub left_same : {text rest rest' : List ℕ} {from w : Writer} → Left text rest from w → rest ≡ rest' → Left text rest' from w
left_same {text} {from = from} {w = w} l e = subst (λ (r : List ℕ). Left text r from w) e l

-- there is room for what is left, where there was for the text
pub left_room : {text rest : List ℕ} {from w : Writer} → Left text rest from w → Room text (at_place from) → Room rest (at_place w)
left_room {rest = rest} l h = record { enough = omega (arith, h.enough, ap length l.parts, length-append l.before rest, l.written.past, l.written.size) }

pub next_room : {text : List ℕ} {from w : Writer} (xs rest : List ℕ) → Left text (xs ++ rest) from w → Room text (at_place from) → Room xs (at_place w)
next_room {w = w} xs rest l h = room_first xs rest (at_place w) refl (left_room l h)

pub left_next : {text xs rest : List ℕ} {from w w' : Writer} → Left text (xs ++ rest) from w → Wrote xs w w' → Left text rest from w'
left_next {text} {xs} {rest} l h =
    record { before = l.before ++ xs; parts = l.parts ∙ sym (append_assoc l.before xs rest); written = wrote_both l.written h }

pub left_last : {text rest : List ℕ} {from w w' : Writer} → Left text rest from w → Wrote rest w w' → Wrote text from w'
left_last l h = wrote_same (wrote_both l.written h) (sym l.parts)

pub left_none : {text : List ℕ} {from w : Writer} → Left text [] from w → Wrote text from w
left_none l = wrote_same l.written (sym (l.parts ∙ append-nil l.before))
