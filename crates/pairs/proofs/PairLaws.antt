-- Pair after pair down a list of numbers: what is left of it has a pair at its front. Assumes nothing.
use Rattle.std.proofs.Common.{ℕ, ◌<◌, ◌≤◌, ◌≡◌, refl, sym, ◌∙◌, List, [], ◌∷◌, ◌++◌, true, false, length, get_or, arith, lt-ltb, le-ltb, ltb-true}
use Rattle.std.specs.Prelude.{ℤ, pos, negsuc}
use Rattle.std.proofs.Math.ListN.{set}
use Rattle.std.proofs.lemmas.Bool.{false≢true}
use Rattle.std.specs.Prelude.{Result, Ok, Err, not}
use Rattle.std.specs.Result.{OkIff, is_err}
use Rattle.std.specs.Int.{FitsUnsignedBits}
use Rattle.definition.specs.Checks.{judge}
use Rattle.definition.specs.CheckLaws.{All}
use Rattle.definition.proofs.CheckLaws.{judge_passed}
use Rattle.definition.proofs.PlaceLaws.{below_place, below_natural}
use Rattle.definition.specs.Statements.{place_of}
use Rattle.definition.specs.Operations.{natural, below, pair_conditions, pairs_conditions, pairs_written}

-- no whole pair is left
pub none_left : (part : List ℤ) → length part < 2 → (count : ℕ) (cells : List ℕ) → (judge (pair_conditions count part) ≡ 0) × (pairs_written part cells ≡ cells)
unfolding judge pair_conditions pairs_written
none_left [] h count cells = (refl, refl)
none_left (a ∷ []) h count cells = (refl, refl)
none_left (a ∷ v ∷ part) h count cells = absurd (omega arith)

natural_law : (a : ℤ) (n : ℕ) → below a n ≡ true → a ≡ pos (natural a)
natural_law (pos i) n e = refl
natural_law (negsuc i) n e = absurd (false≢true e)

-- what is a value of a cell
pub value_law : {E : Type 0} (v : ℤ) (w : ℕ) (r : Result ℕ E) → OkIff r (FitsUnsignedBits 32 v) w → below v 4294967296 ≡ not (is_err r)
value_law (pos i) w (Ok x) h = lt-ltb i 4294967296 h.0
value_law (pos i) w (Err e) h = le-ltb i 4294967296 (omega (arith, h))
value_law (negsuc i) w (Ok x) h = absurd h.0
value_law (negsuc i) w (Err e) h = refl

module _ (part pair rest : List ℤ) (is : part ≡ pair ++ rest) (two : length pair ≡ 2) where
  abbrev address : ℤ
  address = get_or pair 0 (pos 0)

  abbrev value : ℤ
  value = get_or pair 1 (pos 0)

  front : part ≡ address ∷ value ∷ rest
  front = is ∙ both pair two
    where
      both : (l : List ℤ) → length l ≡ 2 → l ++ rest ≡ get_or l 0 (pos 0) ∷ get_or l 1 (pos 0) ∷ rest
      both [] h = absurd (omega arith)
      both (a ∷ []) h = absurd (omega arith)
      both (a ∷ v ∷ []) h = refl
      both (a ∷ v ∷ w ∷ l) h = absurd (omega arith)

  -- ---- its check
  module _ (count : ℕ) where
    pub bad_address : count ≤ place_of count address → 15 ≡ judge (pair_conditions count part)
    unfolding judge pair_conditions
    bad_address h = rw (front, below_place count address, le-ltb _ _ h)

    module _ (h : place_of count address < count) where
      pub bad_value : below value 4294967296 ≡ false → 15 ≡ judge (pair_conditions count part)
      unfolding judge pair_conditions
      bad_value e = rw (front, below_place count address, lt-ltb _ _ h, e)

      pub good_pair : below value 4294967296 ≡ true → judge (pair_conditions count rest) ≡ judge (pair_conditions count part)
      unfolding judge pair_conditions
      good_pair e = rw (front, below_place count address, lt-ltb _ _ h, e)

  -- ---- its writing
  pub record Good (n : ℕ) : Type 0 where
    pub address_is : address ≡ pos (natural address)
    pub cell_there : natural address < n
    pub value_is : value ≡ pos (natural value)
    pub value_fits : natural value < 4294967296
    pub rest_good : All (pair_conditions n rest)
    pub written : (cells : List ℕ) → pairs_written rest (set cells (natural address) (natural value)) ≡ pairs_written part cells

  pub good : (n : ℕ) → All (pair_conditions n part) → Good n
  unfolding pair_conditions pairs_written
  good n all =
      let here : All (pair_conditions n (address ∷ value ∷ rest)) = rw front at all in
      record {
        address_is = natural_law address n here.0;
        cell_there = below_natural n address here.0;
        value_is = natural_law value 4294967296 here.1.0;
        value_fits = below_natural 4294967296 value here.1.0;
        rest_good = here.1.1;
        written = λ cells. rw front;
      }

-- what is good for some of the cells is good for all
more_cells_law : (count n : ℕ) (numbers : List ℤ) → count ≤ n → All (pair_conditions count numbers) → All (pair_conditions n numbers)
unfolding pair_conditions
more_cells_law count n [] h good = tt
more_cells_law count n (a ∷ []) h good = tt
more_cells_law count n (a ∷ v ∷ numbers) h good = (below_more a good.0, (good.1.0, more_cells_law count n numbers h good.1.1))
  where
    below_more : (x : ℤ) → below x count ≡ true → below x n ≡ true
    below_more (pos i) t = lt-ltb i n (omega (arith, ltb-true i count t))
    below_more (negsuc i) t = t

-- all or none
pub all_good : (count n : ℕ) (numbers : List ℤ) → 0 ≡ judge (pairs_conditions count numbers) → count ≤ n → All (pair_conditions n numbers)
unfolding pairs_conditions
all_good count n numbers z h = more_cells_law count n numbers h (judge_passed (pairs_conditions count numbers) (sym z)).1.1
