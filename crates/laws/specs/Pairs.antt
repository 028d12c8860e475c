-- MATCH SETTINGS WRITTEN TOGETHER, document 02's R-9: what the operation is beside the raw host write, in 02's numbers.
use Rattle.std.specs.Prelude.{ℕ, ◌%◌, ◌<◌, ◌≤◌, ◌≡◌, Bool, true, false, cond, ℤ, pos, length, get_or, set, eqb}
use Rattle.std.proofs.Math.Path.{refl, ap}
use Rattle.std.proofs.Common.{sym, ◌∙◌, arith, length-set, get_or-set_same, get_or-set_other}
use mathlib.Core.List.{List, [], ◌∷◌}
use Rattle.std.proofs.lemmas.Bool.{false≢true}
use borrow.Author.Tests.{lt-ltb, lt-leb, eq-eqb, eqb-true}
use Rattle.definition.specs.Checks.{judge, refused, guard}
use Rattle.definition.specs.Machine.{Program, Config, count_of, with_cells}
use Rattle.definition.specs.Operations.{sound, natural, below, raw_conditions, raw_write, pair_conditions, pairs_conditions, pairs_written, write_all_conditions, write_all}
use Rattle.definition.specs.Answers.{kept}
use Rattle.definition.specs.Calls.{writes, writes_all, after}
use Rattle.definition.specs.CheckLaws.{All}
use Rattle.definition.proofs.CheckLaws.{guard_accepts}
use Rattle.definition.proofs.PlaceLaws.{below_natural}

-- "For a single pair it equals the raw host write": of every address and every value of a cell
pub one_pair : (P : Program) (a : ℤ) (v : ℕ) (c : Config) → v < 4294967296 → write_all P (a ∷ pos v ∷ []) c ≡ raw_write P a v c
unfolding write_all pairs_conditions pair_conditions pairs_written raw_write guard judge
one_pair P a v c h = rw (lt-ltb v 4294967296 h)

-- "15 for more than 64 pairs or an unpaired number", whatever the numbers are
module _ (P : Program) (numbers : List ℤ) (c : Config) (passes : sound P c ≡ true) where
  pub unpaired : length numbers % 2 ≡ 1 → write_all P numbers c ≡ refused 15
  unfolding write_all pairs_conditions guard judge
  unpaired odd = rw (passes, odd)

  pub more_than_64 : length numbers % 2 ≡ 0 → 128 < length numbers → write_all P numbers c ≡ refused 15
  unfolding write_all pairs_conditions guard judge
  more_than_64 even over = rw (passes, even, lt-leb (length numbers) 128 over)

-- ---- "in one operation": what raw writes, pair after pair, leave where none of them is refused

abbrev pub one_by_one : Program → List ℤ → Config → Config
one_by_one P [] c = c
one_by_one P (a ∷ []) c = c
one_by_one P (a ∷ v ∷ numbers) c = one_by_one P numbers (after P (writes a (natural v)) c)

module _ (P : Program) where
  -- check 13 looks at the number of the cells alone
  still_sound : (c : Config) (a v : ℕ) → sound P c ≡ true → sound P (with_cells c (set c.cells a v)) ≡ true
  unfolding sound
  still_sound c a v s = rw (length-set c.cells a v) s

  write_accepted : (c : Config) (a : ℤ) (v : ℕ) → sound P c ≡ true → below a (count_of c) ≡ true → after P (writes a v) c ≡ with_cells c (set c.cells (natural a) v)
  unfolding after raw_write
  write_accepted c a v s h = ap (kept c) (guard_accepts (raw_conditions P a c) (with_cells c (set c.cells (natural a) v)) (s, (h, tt)))

  in_turn : (numbers : List ℤ) (c : Config) → sound P c ≡ true → All (pair_conditions (count_of c) numbers)
      → with_cells c (pairs_written numbers c.cells) ≡ one_by_one P numbers c
  unfolding pair_conditions pairs_written
  in_turn [] c s h = refl
  in_turn (a ∷ []) c s h = refl
  in_turn (a ∷ v ∷ numbers) c s h =
      let c' = with_cells c (set c.cells (natural a) (natural v)) in
      in_turn numbers c' (still_sound c (natural a) (natural v) s) h.1.1 ∙ ap (one_by_one P numbers) (sym (write_accepted c a (natural v) s h.0))

  pub one_by_one_law : (numbers : List ℤ) (c : Config) → All (write_all_conditions P numbers c) → after P (writes_all numbers) c ≡ one_by_one P numbers c
  unfolding after write_all pairs_conditions
  one_by_one_law numbers c h =
      ap (kept c) (guard_accepts (write_all_conditions P numbers c) (with_cells c (pairs_written numbers c.cells)) h) ∙ in_turn numbers c h.0 h.1.1.1

-- ---- "Of two pairs with one address the later holds": each cell, whose value was `old`, has that of the last pair with its address

abbrev pub last_of : ℕ → ℕ → List ℤ → ℕ
last_of i old [] = old
last_of i old (a ∷ []) = old
last_of i old (a ∷ v ∷ numbers) = last_of i (cond (eqb (natural a) i) (natural v) old) numbers

pub later_holds : (numbers : List ℤ) (cells : List ℕ) (count i : ℕ) → All (pair_conditions count numbers) → count ≤ length cells
    → get_or (pairs_written numbers cells) i 0 ≡ last_of i (get_or cells i 0) numbers
unfolding pair_conditions pairs_written
later_holds [] cells count i h e = refl
later_holds (a ∷ []) cells count i h e = refl
later_holds (a ∷ v ∷ numbers) cells count i h e =
    later_holds numbers (set cells (natural a) (natural v)) count i h.1.1 (rw (length-set cells (natural a) (natural v)) e)
    ∙ ap (λ (old : ℕ). last_of i old numbers) (one a h.0 (eqb (natural a) i) refl)
  where
    one : (x : ℤ) → below x count ≡ true → (b : Bool) → eqb (natural x) i ≡ b
        → get_or (set cells (natural x) (natural v)) i 0 ≡ cond b (natural v) (get_or cells i 0)
    one x t true q =
        ap (λ (k : ℕ). get_or (set cells (natural x) (natural v)) k 0) (sym (eqb-true (natural x) i q))
        ∙ get_or-set_same cells (natural x) (natural v) 0 (omega (arith, below_natural count x t))
    one x t false q = get_or-set_other cells (natural x) i (natural v) 0 (λ z. false≢true (sym q ∙ eq-eqb (natural x) i (sym z)))
