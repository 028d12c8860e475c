-- Laws of texts. Assumes nothing.
use Rattle.std.specs.Prelude.{ℕ, zero, suc, ◌+◌, ◌≡◌, List, [], ◌∷◌, Bool, true, false, not, cond, eqb, take, Option, Some, None, MatchOption, IfSome}
use Rattle.std.proofs.Common.{refl, sym, ap, subst, ◌∙◌, one-add}
use Rattle.std.specs.Iterator.{AlwaysYields, YieldsThen, ComparesItemsByEq}
use Rattle.std.specs.List.{AllZip, prefix_len}
use Rattle.std.proofs.lemmas.Iterator.{YieldsList}
use Rattle.definition.specs.File.{byte_at}
use Rattle.definition.specs.Strings.{up_to_zero, text_of, same_text}

-- what comes before the first zero byte
pub text_taken : (xs : List ℕ) → take (prefix_len (λ x. not (eqb x 0)) xs) xs ≡ up_to_zero xs
unfolding up_to_zero
text_taken [] = refl
text_taken (x ∷ xs) = go (eqb x 0) (text_taken xs)
  where
    go : (b : Bool) → take (prefix_len (λ x. not (eqb x 0)) xs) xs ≡ up_to_zero xs
        → take (cond (not b) (1 + prefix_len (λ x. not (eqb x 0)) xs) 0) (x ∷ xs) ≡ cond b [] (x ∷ up_to_zero xs)
    go true e = refl
    go false e = rw one-add (ap (λ (ys : List ℕ). x ∷ ys) e)

-- a text is empty where its first byte is the end
pub empty_text : (strings : List ℕ) (n : ℕ) → eqb (byte_at strings n) 0 ≡ same_text (text_of strings n) []
unfolding up_to_zero byte_at same_text
empty_text [] zero = refl
empty_text [] (suc n) = refl
empty_text (x ∷ xs) zero = go (eqb x 0)
  where
    go : (b : Bool) → b ≡ same_text (cond b [] (x ∷ up_to_zero xs)) []
    go true = refl
    go false = refl
empty_text (x ∷ xs) (suc n) = empty_text xs n

-- ---- `eq` of two iterators is `same_text` of their lists

module _ {S T A : Type 0} (steps : S → Option A → S → Type 0) (others : T → Option A → T → Type 0) (v : A → ℕ) (eq : A → A → Bool) (r : Bool) (agree : (x y : A) → eq x y ≡ eqb (v x) (v y)) where
  abbrev Last : Option A → Option A → Type 0
  Last o p = MatchOption o (MatchOption p (r ≡ true) (λ _. r ≡ false)) (λ x. (r ≡ false) × IfSome p (λ y. eq x y ≡ false))

  at_last : (o p : Option A) (xs ys : List ℕ) (s u : S) (t w : T) → AlwaysYields steps v s xs → AlwaysYields others v t ys → steps s o u → others t p w → Last o p → r ≡ same_text xs ys
  unfolding same_text
  at_last None p (x ∷ xs) ys s u t w e f a b h = absurd (e.0 u a)
  at_last (Some x) p [] ys s u t w e f a b h = absurd (e x u a)
  at_last None None [] (y ∷ ys) s u t w e f a b h = absurd (f.0 w b)
  at_last None (Some y) [] [] s u t w e f a b h = absurd (f y w b)
  at_last None None [] [] s u t w e f a b h = h
  at_last None (Some y) [] (z ∷ ys) s u t w e f a b h = h
  at_last (Some x) None (z ∷ xs) (y ∷ ys) s u t w e f a b h = absurd (f.0 w b)
  at_last (Some x) None (z ∷ xs) [] s u t w e f a b h = h.0
  at_last (Some x) (Some y) (z ∷ xs) [] s u t w e f a b h = absurd (f y w b)
  at_last (Some x) (Some y) (x' ∷ xs) (y' ∷ ys) s u t w e f a b h =
      let differ : eqb x' y' ≡ false = rw (← (e.1 x u a).0, ← (f.1 y w b).0) (sym (agree x y) ∙ h.1) in
      rw differ h.0

  along : (cs bs : List A) (o p : Option A) (xs ys : List ℕ) (s u : S) (t w : T) → AlwaysYields steps v s xs → AlwaysYields others v t ys
      → YieldsThen steps s cs o u → YieldsThen others t bs p w → AllZip (λ x y. eq x y ≡ true) cs bs → Last o p → r ≡ same_text xs ys
  unfolding same_text
  along [] [] o p xs ys s u t w e f a b z h = at_last o p xs ys s u t w e f (subst (λ j. steps j o u) (sym a.1) a.2) (subst (λ j. others j p w) (sym b.1) b.2) h
  along [] (y ∷ bs) o p xs ys s u t w e f a b z h = absurd z
  along (x ∷ cs) [] o p xs ys s u t w e f a b z h = absurd z
  along (x ∷ cs) (y ∷ bs) o p [] ys s u t w e f a b z h = absurd (e x a.1.0 a.1.1)
  along (x ∷ cs) (y ∷ bs) o p (x' ∷ xs) [] s u t w e f a b z h = absurd (f y b.1.0 b.1.1)
  along (x ∷ cs) (y ∷ bs) o p (x' ∷ xs) (y' ∷ ys) s u t w e f a b z h =
      let m = e.1 x a.1.0 a.1.1 in
      let n = f.1 y b.1.0 b.1.1 in
      let same : eqb x' y' ≡ true = rw (← m.0, ← n.0) (sym (agree x y) ∙ z.0) in
      rw same (along cs bs o p xs ys a.1.0 u b.1.0 w m.1 n.1 (a.0, a.1.2, a.2) (b.0, b.1.2, b.2) z.1 h)

pub eq_from_yields_List : {S U T A : Type 0} {steps : S → Option A → S → Type 0} {others : T → Option A → T → Type 0} {v : A → ℕ} {s : S} {eq : A → A → Bool} {xs ys : List ℕ}
    (becomes : U → T → Type 0) (other : U) (r : Bool) → ComparesItemsByEq steps becomes others s other eq r
    → YieldsList steps v s xs → ((it : T) → becomes other it → YieldsList others v it ys) → ((x y : A) → eq x y ≡ eqb (v x) (v y)) → r ≡ same_text xs ys
eq_from_yields_List {steps = steps} {others = others} {v = v} {s = s} {eq = eq} {xs = xs} {ys = ys} becomes other r d e f agree =
    along steps others v eq r agree d.1 d.2 d.3 d.4 xs ys s d.5 d.0 d.6 e.runs (f d.0 d.7).runs d.8 d.9 d.10 d.11
