-- The operations by the numbers of their opcodes, which are shown to be all rows of the shape in the definition's table. Assumes nothing.
use Rattle.std.proofs.Common.{◌≡◌, ℕ, zero, suc, Bool, true, false, ◌&&◌, ◌||◌, cond, T, eqb, List, [], ◌∷◌, get_or, sym, refl, ap, ◌∙◌, subst, ne_eqb, eqb-true, true≢false}
use mathlib.Core.Option
use mathlib.Core.Option.{Option, none, some}
use mir.Facts.{and_yes}
use Rattle.definition.specs.Floats.{add_f, sub_f, mul_f, div_f, eq_f, ne_f, le_f, ge_f, lt_f, gt_f, and_f, or_f, not_f, bit_and_f, bit_or_f, mul_v, eq_v, ne_v, eq_n, ne_n, not_n}
use Rattle.definition.specs.Statements.{Shape, host, opcodes, shape_of}
use Rattle.floats.specs.Opcodes.{Unary, Binary, Pairing, floats_of, values_of, vectors_of, vectors_to_float_of, negates_of, float_op, value_op, component_op, vectors_to_float_op, not_op}

abbrev pub among : List ℕ → ℕ → Bool
among [] n = false
among (k ∷ ks) n = eqb n k || among ks n

-- what the last arm is told: the number is none of the earlier arms'
abbrev pub Missed : ℕ → Type 0 → List ℕ → Type 0
Missed n N [] = N
Missed n N (k ∷ ks) = Missed n (N × (n ≡ k → ⊥)) ks

pub missed : (n : ℕ) (N : Type 0) (ks : List ℕ) → Missed n N ks → N × (among ks n ≡ false)
missed n N [] h = (h, refl)
missed n N (k ∷ ks) h =
    let r = missed n (N × (n ≡ k → ⊥)) ks h in
    (r.0.0, ap (λ (b : Bool). b || among ks n) (ne_eqb n k r.0.1) ∙ r.1)

module _ {A : Type 0} (read : Shape → Option A) where
  abbrev is_none : Option A → Bool
  is_none none = true
  is_none (some f) = false

  -- the test, over the rows: what is read of the row at n is none, unless `listed n`
  abbrev pub only_listed : (ℕ → Bool) → List Shape → Bool
  only_listed listed [] = is_none (read host)
  only_listed listed (s ∷ ss) = (is_none (read s) || listed 0) && only_listed (λ n. listed (suc n)) ss

  ended : (o : Option A) → T (is_none o) → o ≡ none
  ended none t = refl
  ended (some f) t = absurd t

  one : (o : Option A) (b : Bool) → T (is_none o || b) → b ≡ false → o ≡ none
  one none b t e = refl
  one (some f) b t e = absurd (subst T e t)

  rows : (listed : ℕ → Bool) (ss : List Shape) → T (only_listed listed ss) → (n : ℕ) → listed n ≡ false → read (get_or ss n host) ≡ none
  rows listed [] t n e = ended (read host) t
  rows listed (s ∷ ss) t zero e = one (read s) (listed 0) (and_yes (is_none (read s) || listed 0) (only_listed (λ n. listed (suc n)) ss) t).0 e
  rows listed (s ∷ ss) t (suc n) e = rows (λ i. listed (suc i)) ss (and_yes (is_none (read s) || listed 0) (only_listed (λ i. listed (suc i)) ss) t).1 n e

  -- z stands for no row: what is made of it is what is made of the opcode's row
  pub last : (z : A) (g : A → ℕ) (ks : List ℕ) (op : ℕ) → T (only_listed (among ks) opcodes) → Missed op (Unit {0}) ks → g z ≡ g (Option.get_or (read (shape_of op)) z)
  unfolding shape_of
  last z g ks op t h = ap (λ (o : Option A). g (Option.get_or o z)) (sym (rows (among ks) opcodes t op (missed op (Unit {0}) ks h).1))

  -- what an operation makes of an opcode, as a choice among the rows of its shape
  module _ (z : A) (g : A → ℕ) where
    abbrev pub at : ℕ → ℕ
    at op = g (Option.get_or (read (shape_of op)) z)

    abbrev pub chosen : List ℕ → ℕ → ℕ
    chosen [] op = g z
    chosen (k ∷ ks) op = cond (eqb op k) (at k) (chosen ks op)

    hit : (ks : List ℕ) (op : ℕ) → among ks op ≡ true → at op ≡ chosen ks op
    hit [] op h = absurd (true≢false (sym h))
    hit (k ∷ ks) op h = go (eqb op k) refl h (hit ks op)
      where
        go : (b : Bool) → eqb op k ≡ b → (b || among ks op) ≡ true → (among ks op ≡ true → at op ≡ chosen ks op) → at op ≡ cond b (at k) (chosen ks op)
        go true e h after = ap at (eqb-true op k e)
        go false e h after = after h

    miss : (ks : List ℕ) (op : ℕ) → among ks op ≡ false → g z ≡ chosen ks op
    miss [] op h = refl
    miss (k ∷ ks) op h = go (eqb op k) h (miss ks op)
      where
        go : (b : Bool) → (b || among ks op) ≡ false → (among ks op ≡ false → g z ≡ chosen ks op) → g z ≡ cond b (at k) (chosen ks op)
        go true h after = absurd (true≢false h)
        go false h after = after h

    pub choice : (ks : List ℕ) (op : ℕ) → T (only_listed (among ks) opcodes) → at op ≡ chosen ks op
    unfolding shape_of
    choice ks op t = go (among ks op) refl
      where
        go : (b : Bool) → among ks op ≡ b → at op ≡ chosen ks op
        go true e = hit ks op e
        go false e = ap (λ (o : Option A). g (Option.get_or o z)) (rows (among ks) opcodes t op e) ∙ miss ks op e

-- ---- each operation by the numbers of its opcodes

pub float_by_number : (op a b : ℕ) → float_op op a b ≡ cond (eqb op 1) (mul_f a b) (cond (eqb op 5) (div_f a b) (cond (eqb op 6) (add_f a b) (cond (eqb op 8) (sub_f a b) (cond (eqb op 10) (eq_f a b) (cond (eqb op 15) (ne_f a b) (cond (eqb op 20) (le_f a b) (cond (eqb op 21) (ge_f a b) (cond (eqb op 22) (lt_f a b) (cond (eqb op 23) (gt_f a b) (cond (eqb op 62) (and_f a b) (cond (eqb op 63) (or_f a b) (cond (eqb op 64) (bit_and_f a b) (cond (eqb op 65) (bit_or_f a b) 0)))))))))))))
unfolding float_op opcodes shape_of
float_by_number op a b = choice floats_of (λ a b. 0) (λ (f : Binary). f a b) (1 ∷ 5 ∷ 6 ∷ 8 ∷ 10 ∷ 15 ∷ 20 ∷ 21 ∷ 22 ∷ 23 ∷ 62 ∷ 63 ∷ 64 ∷ 65 ∷ []) op tt

pub component_by_number : (op x y : ℕ) → component_op op x y ≡ cond (eqb op 3) (mul_f x y) (cond (eqb op 4) (mul_f x y) (cond (eqb op 7) (add_f x y) (cond (eqb op 9) (sub_f x y) 0)))
unfolding component_op opcodes shape_of
component_by_number op x y = choice vectors_of (λ x y. 0) (λ (f : Binary). f x y) (3 ∷ 4 ∷ 7 ∷ 9 ∷ []) op tt

pub vectors_by_number : (op a0 a1 a2 b0 b1 b2 : ℕ) → vectors_to_float_op op a0 a1 a2 b0 b1 b2 ≡ cond (eqb op 2) (mul_v a0 a1 a2 b0 b1 b2) (cond (eqb op 11) (eq_v a0 a1 a2 b0 b1 b2) (cond (eqb op 16) (ne_v a0 a1 a2 b0 b1 b2) 0))
unfolding vectors_to_float_op opcodes shape_of
vectors_by_number op a0 a1 a2 b0 b1 b2 = choice vectors_to_float_of (λ a0 a1 a2 b0 b1 b2. 0) (λ (f : Pairing). f a0 a1 a2 b0 b1 b2) (2 ∷ 11 ∷ 16 ∷ []) op tt

pub value_by_number : (op a b : ℕ) → value_op op a b ≡ cond (eqb op 13) (eq_n a b) (cond (eqb op 14) (eq_n a b) (cond (eqb op 18) (ne_n a b) (cond (eqb op 19) (ne_n a b) 0)))
unfolding value_op opcodes shape_of
value_by_number op a b = choice values_of (λ a b. 0) (λ (f : Binary). f a b) (13 ∷ 14 ∷ 18 ∷ 19 ∷ []) op tt

pub not_by_number : (op a : ℕ) → not_op op a ≡ cond (eqb op 44) (not_f a) (cond (eqb op 47) (not_n a) (cond (eqb op 48) (not_n a) 0))
unfolding not_op opcodes shape_of
not_by_number op a = choice negates_of (λ a. 0) (λ (f : Unary). f a) (44 ∷ 47 ∷ 48 ∷ []) op tt
