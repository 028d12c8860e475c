-- TEXTS, document 02's R-4, for all strings and string numbers: what the text of a number is, when two texts are the same, by what EqS, NeS and NotS go, and
-- which numbers are refused 33. (The rows of the definition's StringRows are cases of short texts; these laws hold of texts of any length and of all bytes.)
use Rattle.std.specs.Prelude.{ℕ, suc, ◌≤◌, ◌<◌, ◌≡◌, ◌⊎◌, List, [], ◌∷◌, ◌++◌, Bool, true, false, ◌&&◌, ◌||◌, cond, ℤ, length, get_or, set, drop, eqb, ltb}
use Rattle.std.proofs.Math.Path.{refl}
use Rattle.std.proofs.Common.{sym, ap, ◌∙◌, subst, inl, inr}
use Rattle.std.specs.Bool.{beq}
use borrow.Author.Tests.{eqb-true, eqb-false, eq-eqb, ne_eqb, lt-ltb, le-ltb}
use Rattle.std.proofs.Math.Dec.{eqb-suc-zero}
use Rattle.definition.specs.Checks.{Conditions, ◌otherwise◌, judge}
use Rattle.definition.specs.Floats.{flag}
use Rattle.definition.specs.File.{Contents}
use Rattle.definition.specs.Cells.{string, cell_of, Typing, typing_of, access}
use Rattle.definition.specs.Strings.{up_to_zero, text_of, same_text, text_access}
use Rattle.definition.specs.Statements.{Entities, Does, effect_does, strings_effect, negates_s_effect, same_strings, execute, shape_of}
use Rattle.definition.proofs.CheckLaws.{no_true, and_left, and_right, or_cases, judge_append}
use Rattle.laws.specs.Loadable.{Every}

-- ---- the text of a number

abbrev NotZero : ℕ → Type 0
NotZero x = x ≡ 0 → ⊥

-- "a zero byte or the end of the strings"
abbrev pub Ends : List ℕ → Type 0
Ends [] = Unit {0}
Ends (x ∷ xs) = x ≡ 0

-- bytes begin with a text: all of it before the first zero byte or the end
pub record BeginsWith (bytes text : List ℕ) : Type 0 where
  pub rest : List ℕ
  pub joined : text ++ rest ≡ bytes
  pub without_zero : Every NotZero text
  pub ends : Ends rest

up_to_zero_law : (bytes : List ℕ) → BeginsWith bytes (up_to_zero bytes)
unfolding up_to_zero
up_to_zero_law [] = record { rest = []; joined = refl; without_zero = tt; ends = tt }
up_to_zero_law (x ∷ xs) = by (up_to_zero_law xs) (eqb x 0) refl
  where
    by : BeginsWith xs (up_to_zero xs) → (z : Bool) → eqb x 0 ≡ z → BeginsWith (x ∷ xs) (cond z [] (x ∷ up_to_zero xs))
    by t true e = record { rest = x ∷ xs; joined = refl; without_zero = tt; ends = eqb-true x 0 e }
    by t false e =
        record {
          rest = t.rest;
          joined = ap {B = List ℕ} (λ r. x ∷ r) t.joined;
          without_zero = (eqb-false x 0 e, t.without_zero);
          ends = t.ends;
        }

-- "bytes up to a zero byte or the end of the strings", from the number on
pub text_is : (strings : List ℕ) (n : ℕ) → BeginsWith (drop n strings) (text_of strings n)
text_is strings n = up_to_zero_law (drop n strings)

-- there is no other such text
ends_at : (r : List ℕ) (y : ℕ) (t : List ℕ) → r ≡ y ∷ t → Ends r → NotZero y → ⊥
ends_at r y t e end h = h (subst Ends e end)

one_text : (s r t q : List ℕ) → s ++ r ≡ t ++ q → Every NotZero s → Every NotZero t → Ends r → Ends q → s ≡ t
one_text [] r [] q e hs ht er eq = refl
one_text [] r (y ∷ t) q e hs ht er eq = absurd (ends_at r y (t ++ q) e er ht.0)
one_text (x ∷ s) r [] q e hs ht er eq = absurd (ends_at q x (s ++ r) (sym e) eq hs.0)
one_text (x ∷ s) r (y ∷ t) q e hs ht er eq =
    let head : x ≡ y = cc in
    let tail : s ++ r ≡ t ++ q = cc in
    let rest : s ≡ t = one_text s r t q tail hs.1 ht.1 er eq in
    cc

pub only_text : (bytes s t : List ℕ) → BeginsWith bytes s → BeginsWith bytes t → s ≡ t
only_text bytes s t p q = one_text s p.rest t q.rest (p.joined ∙ sym q.joined) p.without_zero q.without_zero p.ends q.ends

-- ---- the same text

pub same_equal : (s t : List ℕ) → same_text s t ≡ true → s ≡ t
unfolding same_text
same_equal [] [] e = refl
same_equal [] (y ∷ t) e = cc
same_equal (x ∷ s) [] e = cc
same_equal (x ∷ s) (y ∷ t) e =
    let head = eqb-true x y (and_left (eqb x y) (same_text s t) e) in
    let tail = same_equal s t (and_right (eqb x y) (same_text s t) e) in
    cc

same_itself : (s : List ℕ) → same_text s s ≡ true
unfolding same_text
same_itself [] = refl
same_itself (x ∷ s) = rw (eq-eqb x x refl, same_itself s)

pub equal_same : (s t : List ℕ) → s ≡ t → same_text s t ≡ true
equal_same s t e = subst (λ (u : List ℕ). same_text s u ≡ true) e (same_itself s)

or_left : (a b : Bool) → a ≡ true → (a || b) ≡ true
or_left true b e = refl
or_left false b e = cc

or_right : (a b : Bool) → b ≡ true → (a || b) ≡ true
or_right true b e = refl
or_right false b e = e

-- ---- EqS, NeS and NotS

module _ (g : Typing) (bytes : List ℕ) (a b c : ℕ) (cells : List ℕ) where
  -- "Equal operands of EqS and NeS are still answered unread", others by their texts
  abbrev pub Same : Type 0
  Same = (a ≡ b) ⊎ (text_of bytes (get_or cells a 0) ≡ text_of bytes (get_or cells b 0))

  same_true : Same → same_strings bytes a b cells ≡ true
  same_true (inl e) = or_left (eqb a b) _ (eq-eqb a b e)
  same_true (inr e) = or_right (eqb a b) _ (equal_same _ _ e)

  true_same : same_strings bytes a b cells ≡ true → Same
  true_same e = by (or_cases (eqb a b) _ e)
    where
      by : (eqb a b ≡ true) ⊎ (same_text (text_of bytes (get_or cells a 0)) (text_of bytes (get_or cells b 0)) ≡ true) → Same
      by (inl p) = inl (eqb-true a b p)
      by (inr p) = inr (same_equal _ _ p)

  same_false : (Same → ⊥) → same_strings bytes a b cells ≡ false
  same_false h = no_true _ (λ e. h (true_same e))

  pub eqs_of_same : Same → (strings_effect true g bytes a b c cells).cells ≡ set cells c 0x3f800000
  unfolding strings_effect
  eqs_of_same h = rw (same_true h)

  pub eqs_of_other : (Same → ⊥) → (strings_effect true g bytes a b c cells).cells ≡ set cells c 0
  unfolding strings_effect
  eqs_of_other h = rw (same_false h)

  pub nes_of_same : Same → (strings_effect false g bytes a b c cells).cells ≡ set cells c 0
  unfolding strings_effect
  nes_of_same h = rw (same_true h)

  pub nes_of_other : (Same → ⊥) → (strings_effect false g bytes a b c cells).cells ≡ set cells c 0x3f800000
  unfolding strings_effect
  nes_of_other h = rw (same_false h)

  -- "1.0 for string number 0 and for an empty string, and still for operand 0"
  abbrev pub Nothing : Type 0
  Nothing = (a ≡ 0) ⊎ ((get_or cells a 0 ≡ 0) ⊎ (text_of bytes (get_or cells a 0) ≡ []))

  abbrev nothing : Bool
  nothing = eqb a 0 || eqb (get_or cells a 0) 0 || same_text (text_of bytes (get_or cells a 0)) []

  nothing_true : Nothing → nothing ≡ true
  nothing_true (inl e) = or_left (eqb a 0 || eqb (get_or cells a 0) 0) _ (or_left (eqb a 0) _ (eq-eqb a 0 e))
  nothing_true (inr (inl e)) = or_left (eqb a 0 || eqb (get_or cells a 0) 0) _ (or_right (eqb a 0) _ (eq-eqb _ 0 e))
  nothing_true (inr (inr e)) = or_right (eqb a 0 || eqb (get_or cells a 0) 0) _ (equal_same _ [] e)

  true_nothing : nothing ≡ true → Nothing
  true_nothing e = by (or_cases (eqb a 0 || eqb (get_or cells a 0) 0) _ e)
    where
      numbered : (eqb a 0 ≡ true) ⊎ (eqb (get_or cells a 0) 0 ≡ true) → Nothing
      numbered (inl p) = inl (eqb-true a 0 p)
      numbered (inr p) = inr (inl (eqb-true _ 0 p))

      by : ((eqb a 0 || eqb (get_or cells a 0) 0) ≡ true) ⊎ (same_text (text_of bytes (get_or cells a 0)) [] ≡ true) → Nothing
      by (inl p) = numbered (or_cases (eqb a 0) _ p)
      by (inr p) = inr (inr (same_equal _ [] p))

  pub nots_of_nothing : Nothing → (negates_s_effect g bytes a b c cells).cells ≡ set cells c 0x3f800000
  unfolding negates_s_effect
  nots_of_nothing h = rw (nothing_true h)

  pub nots_of_other : (Nothing → ⊥) → (negates_s_effect g bytes a b c cells).cells ≡ set cells c 0
  unfolding negates_s_effect
  nots_of_other h = rw (no_true nothing (λ e. h (true_nothing e)))

-- ---- "refused 33, in each access after type and address"

module _ (g : Typing) (bytes : List ℕ) (cell : ℕ) (cells : List ℕ) where
  pub access_first : (n : ℕ) → judge (access g string cell) ≡ suc n → judge (text_access g bytes cell cells) ≡ suc n
  unfolding text_access
  access_first n e = rw (judge_append (access g string cell) _, e, eqb-suc-zero n)

  pub number_in_range : judge (access g string cell) ≡ 0 → get_or cells cell 0 < length bytes → judge (text_access g bytes cell cells) ≡ 0
  unfolding text_access judge
  number_in_range e h = rw (judge_append (access g string cell) _, e, lt-ltb _ _ h)

  pub number_out_of_range : judge (access g string cell) ≡ 0 → length bytes ≤ get_or cells cell 0 → judge (text_access g bytes cell cells) ≡ 33
  unfolding text_access judge
  number_out_of_range e h = rw (judge_append (access g string cell) _, e, le-ltb _ _ h)

-- ---- the strings are the file's, all of them

module _ (k : Contents) (p : ℤ) (a b c : ℕ) (e : Entities) (cells : List ℕ) where
  abbrev statement : ℕ → Does
  statement opcode = execute k p (record { opcode = opcode; arg1 = a; arg2 = b; arg3 = c }) e cells

  pub eqs_is : statement 12 ≡ effect_does p (strings_effect true (typing_of k) k.strings (cell_of a) (cell_of b) (cell_of c) cells)
  unfolding execute shape_of
  eqs_is = refl

  pub nes_is : statement 17 ≡ effect_does p (strings_effect false (typing_of k) k.strings (cell_of a) (cell_of b) (cell_of c) cells)
  unfolding execute shape_of
  nes_is = refl

  pub nots_is : statement 46 ≡ effect_does p (negates_s_effect (typing_of k) k.strings (cell_of a) (cell_of b) (cell_of c) cells)
  unfolding execute shape_of
  nots_is = refl
