-- Laws of ranges and of copying one at a time: what a turn of each loop does, and what is left.
use Rattle.std.proofs.Common.{◌≡◌, ℕ, zero, suc, ◌+◌, ◌*◌, ◌-◌, ◌^◌, ◌≤◌, ◌<◌, ◌⊎◌, inl, inr, ⊎_elim, List, [], ◌∷◌, ◌++◌, Bool, true, false, ◌&&◌, length, get_or, set, drop, leb, ltb, eqb, refl, sym, arith, add-one, add-zero, drop-cons, leb-true, le-leb, lt-ltb, ltb-true, eqb-true, length-drop}
use lib.Seq.{paste-suc, get_or-drop}
use Rattle.std.proofs.Math.Seq.{paste}
use Rattle.definition.specs.Machine.{present, Copy, copied, successive, arguments, copies_present}
use Rattle.definition.proofs.CheckLaws.{and_left, and_right, and_both, or_cases}

-- ---- ranges

present_cases : (first n size : ℕ) → present first n size ≡ true → (n ≡ 0) ⊎ (first + n ≤ size)
unfolding present
present_cases first n size e =
    ⊎_elim (λ a. inl (eqb-true n 0 a)) (λ a. inr (leb-true (first + n) size a)) (or_cases (eqb n 0) (leb (first + n) size) e)

pub present_reaches : (first n size : ℕ) → present first n size ≡ true → (n ≡ 0 → ⊥) → first + n ≤ size
present_reaches first n size e z = ⊎_elim (λ a. absurd (z a)) (λ a. a) (present_cases first n size e)

pub present_at : (first n size i : ℕ) → present first n size ≡ true → i < n → first + i < size
present_at first n size i h k = ⊎_elim (λ e. omega arith) (λ e. omega arith) (present_cases first n size h)

pub present_of : (first n size : ℕ) → first + n ≤ size → present first n size ≡ true
unfolding present
present_of first n size h = rw (le-leb (first + n) size h, mathlib.Core.Bool.or-true)

pub present_more : (first n size more : ℕ) → size ≤ more → present first n size ≡ true → present first n more ≡ true
unfolding present
present_more first n size more h e =
    ⊎_elim (λ (z : n ≡ 0). rw z) (λ (l : first + n ≤ size). present_of first n more (omega arith)) (present_cases first n size e)

-- a range that starts below the top of the numbers ends there
pub present_ends : (to n size : ℕ) → present to n size ≡ true → to < 2 ^ 64 → size < 2 ^ 64 → to + n < 2 ^ 64
present_ends to n size h a b = ⊎_elim (λ e. omega arith) (λ e. omega arith) (present_cases to n size h)

-- ---- pasting

-- one cell more
pub pasted_on : (src dst₀ dst : List ℕ) (first at n i : ℕ) → present first n (length src) ≡ true → present at n (length dst₀) ≡ true → i < n
    → dst ≡ paste dst₀ at (drop first src) i
    → set dst (at + i) (get_or src (first + i) 0) ≡ paste dst₀ at (drop first src) (i + 1)
pasted_on src dst₀ dst first at n i hs hd k e =
    let a = present_at first n (length src) i hs k in
    rw (e, add-one i, ← get_or-drop first src i 0)
    (paste-suc dst₀ at (drop first src) i 0 (present_at at n (length dst₀) i hd k) (omega (arith, length-drop first src)))

-- ---- successive cells

pub copied_none : (from to : ℕ) (cells : List ℕ) → copied (successive 0 from to) cells ≡ cells
unfolding copied successive
copied_none from to cells = refl

-- one cell more
copied_suc : (n from to : ℕ) (cells : List ℕ)
    → copied (successive (suc n) from to) cells ≡ set (copied (successive n from to) cells) (to + n) (get_or (copied (successive n from to) cells) (from + n) 0)
unfolding copied successive
copied_suc zero from to cells = rw (add-zero to, add-zero from)
copied_suc (suc n) from to cells =
    let a : from + suc n ≡ from + 1 + n = omega arith in
    let b : to + suc n ≡ to + 1 + n = omega arith in
    rw (a, b) (copied_suc n (from + 1) (to + 1) (set cells to (get_or cells from 0)))

pub copied_next : (n from to : ℕ) (cells : List ℕ)
    → copied (successive (n + 1) from to) cells ≡ set (copied (successive n from to) cells) (to + n) (get_or (copied (successive n from to) cells) (from + n) 0)
copied_next n from to cells = rw (add-one n) (copied_suc n from to cells)

-- ---- arguments

pub copied_append : (xs ys : List Copy) (cells : List ℕ) → copied (xs ++ ys) cells ≡ copied ys (copied xs cells)
unfolding copied
copied_append [] ys cells = refl
copied_append (x ∷ xs) ys cells = copied_append xs ys (set cells x.to (get_or cells x.from 0))

and_assoc : (a b c : Bool) → (a && (b && c)) ≡ ((a && b) && c)
and_assoc true b c = refl
and_assoc false b c = refl

and_swap : (a b c d : Bool) → ((a && b) && (c && d)) ≡ ((a && c) && (b && d))
and_swap false b c d = refl
and_swap true false false d = refl
and_swap true false true d = refl
and_swap true true c d = refl

-- two tests that imply each other
same_test : (a b : Bool) → (a ≡ true → b ≡ true) → (b ≡ true → a ≡ true) → a ≡ b
same_test true b f g = sym (f refl)
same_test false true f g = g refl
same_test false false f g = refl

copies_append : (size : ℕ) (xs ys : List Copy) → copies_present size (xs ++ ys) ≡ (copies_present size xs && copies_present size ys)
unfolding copies_present
copies_append size [] ys = refl
copies_append size (x ∷ xs) ys =
    rw (copies_append size xs ys) (and_assoc (ltb x.from size && ltb x.to size) (copies_present size xs) (copies_present size ys))

present_suc : (first n size : ℕ) → (ltb first size && present (first + 1) n size) ≡ present first (suc n) size
present_suc first n size =
    same_test _ _
    (λ (e : (ltb first size && present (first + 1) n size) ≡ true).
    let a = ltb-true _ _ (and_left (ltb first size) (present (first + 1) n size) e) in
    present_of first (suc n) size (ends (present_cases (first + 1) n size (and_right (ltb first size) (present (first + 1) n size) e)) a))
    (λ (e : present first (suc n) size ≡ true).
    let a = present_at first (suc n) size n e (omega arith) in
    and_both (ltb first size) (present (first + 1) n size) (lt-ltb first size (omega arith)) (present_of (first + 1) n size (omega arith)))
  where
    ends : (n ≡ 0) ⊎ (first + 1 + n ≤ size) → first < size → first + suc n ≤ size
    ends (inl z) h = omega arith
    ends (inr l) h = omega arith

-- successive cells are all there where both ranges are
pub successive_present : (size n from to : ℕ) → copies_present size (successive n from to) ≡ (present from n size && present to n size)
unfolding copies_present successive present
successive_present size zero from to = refl
successive_present size (suc n) from to =
    rw (successive_present size n (from + 1) (to + 1), ← present_suc from n size, ← present_suc to n size)
    (and_swap (ltb from size) (ltb to size) (present (from + 1) n size) (present (to + 1) n size))

pub copies_more : (size more : ℕ) (ms : List Copy) → size ≤ more → copies_present size ms ≡ true → copies_present more ms ≡ true
unfolding copies_present
copies_more size more [] h e = refl
copies_more size more (m ∷ ms) h e =
    let both = and_left (ltb m.from size && ltb m.to size) (copies_present size ms) e in
    let from = ltb-true m.from size (and_left (ltb m.from size) (ltb m.to size) both) in
    let to = ltb-true m.to size (and_right (ltb m.from size) (ltb m.to size) both) in
    rw (lt-ltb m.from more (omega arith), lt-ltb m.to more (omega arith))
    (copies_more size more ms h (and_right (ltb m.from size && ltb m.to size) (copies_present size ms) e))

-- the arguments from number i on, of the sizes of all
abbrev pub rest : List ℕ → ℕ → ℕ → ℕ → List Copy
rest sizes argc i to = arguments (argc - i) i to (drop i sizes)

-- no argument is left
rest_none : (sizes : List ℕ) (argc i to : ℕ) → argc ≤ i → rest sizes argc i to ≡ []
unfolding arguments
rest_none sizes argc i to h = let a : argc - i ≡ 0 = omega arith in rw a

pub rest_there : (size : ℕ) (sizes : List ℕ) (argc i to : ℕ) → argc ≤ i → copies_present size (rest sizes argc i to) ≡ true
unfolding copies_present
rest_there size sizes argc i to h = rw (rest_none sizes argc i to h)

pub rest_copied : (sizes cells : List ℕ) (argc i to : ℕ) → argc ≤ i → copied (rest sizes argc i to) cells ≡ cells
unfolding copied
rest_copied sizes cells argc i to h = rw (rest_none sizes argc i to h)

-- one argument more, of these many cells
module _ (sizes : List ℕ) (argc i to : ℕ) (more : i < argc) (there : i < length sizes) where
  abbrev n : ℕ
  n = get_or sizes i 0

  rest_on : rest sizes argc i to ≡ successive n (4 + 3 * i) to ++ rest sizes argc (i + 1) (to + n)
  unfolding arguments
  rest_on =
      let a : argc - i ≡ suc (argc - (i + 1)) = omega arith in
      rw (a, drop-cons sizes i 0 there, ← add-one i)

  pub copied_on : (cells : List ℕ) → copied (rest sizes argc (i + 1) (to + n)) (copied (successive n (4 + 3 * i) to) cells) ≡ copied (rest sizes argc i to) cells
  copied_on cells = rw rest_on (sym (copied_append (successive n (4 + 3 * i) to) (rest sizes argc (i + 1) (to + n)) cells))

  module _ (size : ℕ) where
    abbrev both : Bool
    both = present (4 + 3 * i) n size && present to n size

    pub copies_on : copies_present size (rest sizes argc i to) ≡ (both && copies_present size (rest sizes argc (i + 1) (to + n)))
    copies_on = rw (rest_on, copies_append size (successive n (4 + 3 * i) to) (rest sizes argc (i + 1) (to + n)), successive_present size n (4 + 3 * i) to)
