-- Laws of checks, once for every operation: accepted exactly where all the conditions hold, refused n exactly where n's condition is the first to fail.
use Rattle.std.specs.Prelude.{ℕ, zero, suc, ◌≡◌, refl, ◌⊎◌, [], ◌∷◌, ◌++◌, Bool, true, false, ◌&&◌, ◌||◌, cond, eqb}
use Rattle.std.proofs.Common.{sym, subst, inl, inr, arith}
use Rattle.std.proofs.Math.Dec.{eqb-suc-zero}
use Rattle.definition.specs.Checks.{Conditions, judge, refused, accepted, decided, guard}
use Rattle.definition.specs.CheckLaws.{All, FailsFirst, WhenAccepted}

pub no_true : (b : Bool) → (b ≡ true → ⊥) → b ≡ false
no_true true h = absurd (h refl)
no_true false h = refl

pub and_left : (a b : Bool) → (a && b) ≡ true → a ≡ true
and_left true b e = refl
and_left false b e = e

pub and_right : (a b : Bool) → (a && b) ≡ true → b ≡ true
and_right true b e = e
and_right false b e = cc

pub and_both : (a b : Bool) → a ≡ true → b ≡ true → (a && b) ≡ true
and_both true b p q = q
and_both false b p q = p

pub or_cases : (a b : Bool) → (a || b) ≡ true → (a ≡ true) ⊎ (b ≡ true)
or_cases true b e = inl refl
or_cases false b e = inr e

pub judge_passed : (cs : Conditions) → judge cs ≡ 0 → All cs
unfolding judge
judge_passed [] e = tt
judge_passed (c ∷ cs) e = go c.holds refl e (judge_passed cs)
  where
    go : (b : Bool) → c.holds ≡ b → cond b (judge cs) (suc c.number_less_one) ≡ 0 → (judge cs ≡ 0 → All cs) → All (c ∷ cs)
    go true h e rest = (h, rest e)
    go false h e rest = absurd (omega arith)

pub judge_all : (cs : Conditions) → All cs → judge cs ≡ 0
unfolding judge
judge_all [] h = refl
judge_all (c ∷ cs) (h, hs) = rw (h, judge_all cs hs)

pub judge_fails : (cs : Conditions) (n : ℕ) → judge cs ≡ suc n → FailsFirst (suc n) cs
unfolding judge
judge_fails [] n e = absurd (omega arith)
judge_fails (c ∷ cs) n e = go c.holds refl e (judge_fails cs n)
  where
    go : (b : Bool) → c.holds ≡ b → cond b (judge cs) (suc c.number_less_one) ≡ suc n → (judge cs ≡ suc n → FailsFirst (suc n) cs) → FailsFirst (suc n) (c ∷ cs)
    go true h e rest = inr (h, rest e)
    go false h e rest = inl (h, sym e)

pub judge_first : (cs : Conditions) (n : ℕ) → FailsFirst n cs → judge cs ≡ n
unfolding judge
judge_first [] n f = absurd f
judge_first (c ∷ cs) n (inl (h, e)) = rw h (sym e)
judge_first (c ∷ cs) n (inr (h, f)) = rw h (judge_first cs n f)

-- one list of conditions after another
pub judge_append : (cs ds : Conditions) → judge (cs ++ ds) ≡ cond (eqb (judge cs) 0) (judge ds) (judge cs)
unfolding judge
judge_append [] ds = refl
judge_append (c ∷ cs) ds = go c.holds (judge_append cs ds)
  where
    go : (b : Bool) → judge (cs ++ ds) ≡ cond (eqb (judge cs) 0) (judge ds) (judge cs)
        → cond b (judge (cs ++ ds)) (suc c.number_less_one)
        ≡ cond (eqb (cond b (judge cs) (suc c.number_less_one)) 0) (judge ds) (cond b (judge cs) (suc c.number_less_one))
    go true rest = rest
    go false rest = rw (eqb-suc-zero c.number_less_one)

pub all_front : (cs ds : Conditions) → All (cs ++ ds) → All cs
all_front [] ds h = tt
all_front (c ∷ cs) ds (h, hs) = (h, all_front cs ds hs)

pub all_back : (cs ds : Conditions) → All (cs ++ ds) → All ds
all_back [] ds h = h
all_back (c ∷ cs) ds (h, hs) = all_back cs ds hs

pub all_both : (cs ds : Conditions) → All cs → All ds → All (cs ++ ds)
all_both [] ds h k = k
all_both (c ∷ cs) ds (h, hs) k = (h, all_both cs ds hs k)

-- ---- what holds of a result, if there is one

pub guarded : {A : Type 0} (Q : A → Type 0) (cs : Conditions) (a : A) → (All cs → Q a) → WhenAccepted Q (guard cs a)
unfolding guard
guarded Q cs a q = go (judge cs) refl
  where
    go : (n : ℕ) → judge cs ≡ n → WhenAccepted Q (decided n a)
    go zero e = q (judge_passed cs e)
    go (suc n) e = tt

-- ---- accepted exactly when, refused exactly when

pub guard_accepts : {A : Type 0} (cs : Conditions) (a : A) → All cs → guard cs a ≡ accepted a
unfolding guard
guard_accepts cs a h = rw (judge_all cs h)

pub accepted_all : {A : Type 0} (cs : Conditions) (a b : A) → guard cs a ≡ accepted b → All cs × (a ≡ b)
unfolding guard
accepted_all cs a b = go (judge cs) refl
  where
    go : (n : ℕ) → judge cs ≡ n → decided n a ≡ accepted b → All cs × (a ≡ b)
    go zero e h = (judge_passed cs e, cc)
    go (suc n) e h = absurd (let z : ◌≡◌ {A = ℕ} 0 1 = cc in omega arith)

pub guard_refuses : {A : Type 0} (cs : Conditions) (a : A) (n : ℕ) → FailsFirst (suc n) cs → guard cs a ≡ refused (suc n)
unfolding guard
guard_refuses cs a n f = rw (judge_first cs (suc n) f)

pub refused_first : {A : Type 0} (cs : Conditions) (a : A) (n : ℕ) → guard cs a ≡ refused n → FailsFirst n cs
unfolding guard
refused_first cs a n = go (judge cs) refl
  where
    go : (m : ℕ) → judge cs ≡ m → decided m a ≡ refused n → FailsFirst n cs
    go zero e h = absurd (let z : ◌≡◌ {A = ℕ} 0 1 = cc in omega arith)
    go (suc m) e h = let s : suc m ≡ n = cc in subst (λ (k : ℕ). FailsFirst k cs) s (judge_fails cs m e)
