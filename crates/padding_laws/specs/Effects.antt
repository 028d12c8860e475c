-- WHAT A STATEMENT DOES, once with the file's count of cells and once with more (document 02, R-7): where it used to complete it still does, "with the
-- same results", for every shape of statement.
use Rattle.std.specs.Prelude.{ℕ, zero, suc, ◌+◌, ◌≤◌, ◌<◌, ◌≡◌, List, [], Bool, ◌||◌, get_or, set, ℤ, pos, ◌+ℤ◌}
use Rattle.std.proofs.Math.Path.{refl, ap, ap₂}
use Rattle.std.proofs.Math.Bool.{true, false, cond}
use Rattle.std.specs.Bool.{beq}
use Rattle.std.proofs.Common.{arith}
use Rattle.std.proofs.Math.Dec.{eqb}
use Rattle.definition.specs.Checks.{Conditions, judge}
use Rattle.definition.proofs.CheckLaws.{judge_passed, judge_all}
use Rattle.definition.specs.Floats.{flag, is_zero}
use Rattle.definition.specs.Cells.{float, vector, Typing, access, must_be_natural, read_access}
use Rattle.definition.specs.Strings.{text_of, same_text}
use Rattle.definition.specs.Statements.{Does, next, puts, calls, returns, refuses, hands_over, or_refused, provided, Effect, effect_does, put_does}
use Rattle.definition.specs.Statements.{floats_effect, values_effect, component, vector_result, vectors_effect, vectors_to_float_effect, operand_given, strings_effect, unused, negates_effect, negates_v_effect, negates_s_effect}
use Rattle.definition.specs.Statements.{moved, stored_natural, stores_effect, reserved_cell, stores_v_effect, value_moved}
use Rattle.definition.specs.Statements.{branches_do}
use Rattle.definition.specs.StatementLaws.{last_of}
use Rattle.padding_laws.specs.Cells.{Agree, same_at, agree_set}
use Rattle.padding_laws.specs.Conditions.{Still, ◌and◌, unchanged, widened, first_below, component_below, typed, moves, reads, text, texts}

-- ---- what is done with more cells, where x is done with the file's; `before` are the cells before it

pub record Next (n : ℕ) (before : List ℕ) (p : ℤ) (cells : List ℕ) (y : Does) : Type 0 where
  pub cells' : List ℕ
  pub does : y ≡ next p cells'
  pub agree : Agree n before cells cells'

abbrev pub Carries : ℕ → List ℕ → Does → Does → Type 0
Carries n before (next p cells) y = Next n before p cells y
Carries n before (puts p entities) y = y ≡ puts p entities
Carries n before (calls f) y = y ≡ calls f
Carries n before (returns a) y = y ≡ returns a
Carries n before (refuses r) y = Unit {0}
Carries n before (hands_over h) y = y ≡ hands_over h

-- ---- values that are moved

module _ {n : ℕ} {before cells cells' : List ℕ} (same : Agree n before cells cells') where
  agree_moved : (a b : ℕ) → a < n → b < n → Agree n before (moved a b cells) (moved a b cells')
  agree_moved a b ha hb = agree_set same b hb (same_at same a ha)

  -- to the old cells
  pub agree_value : (t : ℕ) (from : List ℕ) (i j : ℕ) → last_of t j < n → Agree n before (value_moved t from i cells j) (value_moved t from i cells' j)
  unfolding value_moved
  agree_value t from i j h = go (eqb t vector) h
    where
      go : (b : Bool) → cond b (j + 2) j < n
          → Agree n before
          (cond b (set (set (set cells j (get_or from i 0)) (j + 1) (get_or from (i + 1) 0)) (j + 2) (get_or from (i + 2) 0)) (set cells j (get_or from i 0)))
          (cond b (set (set (set cells' j (get_or from i 0)) (j + 1) (get_or from (i + 1) 0)) (j + 2) (get_or from (i + 2) 0)) (set cells' j (get_or from i 0)))
      go true h = agree_set (agree_set (agree_set same j (omega arith) refl) (j + 1) (omega arith) refl) (j + 2) h refl
      go false h = agree_set same j h refl

  -- and from them
  pub same_value : (t i : ℕ) (to : List ℕ) (j : ℕ) → last_of t i < n → value_moved t cells' i to j ≡ value_moved t cells i to j
  unfolding value_moved
  same_value t i to j h = go (eqb t vector) h
    where
      go : (b : Bool) → cond b (i + 2) i < n
          → cond b (set (set (set to j (get_or cells' i 0)) (j + 1) (get_or cells' (i + 1) 0)) (j + 2) (get_or cells' (i + 2) 0)) (set to j (get_or cells' i 0))
          ≡ cond b (set (set (set to j (get_or cells i 0)) (j + 1) (get_or cells (i + 1) 0)) (j + 2) (get_or cells (i + 2) 0)) (set to j (get_or cells i 0))
      go true h = rw (same_at same i (omega arith), same_at same (i + 1) (omega arith), same_at same (i + 2) h) refl
      go false h = rw (same_at same i h) refl

-- ---- each shape

module _ (g : Typing) (more : ℕ) (wider : g.count ≤ more) {cells cells' : List ℕ} (same : Agree g.count cells' cells cells') where
  abbrev pub w : Typing
  w = widened g more

  abbrev pub Carried : Does → Does → Type 0
  Carried x y = Carries g.count cells' x y

  pub operand : (t a : ℕ) → Still (access g t a) (access w t a) (last_of t a < g.count)
  operand t a = typed g more wider t a

  pub value : (must : Bool) (t a : ℕ) → Still (read_access g must t a cells) (read_access w must t a cells') (last_of t a < g.count)
  value must t a = reads g more wider same must t a

  pub at : (a : ℕ) → a < g.count → get_or cells' a 0 ≡ get_or cells a 0
  at a h = same_at same a h

  pub provided_carried : {F : Type 0} (cs cs' : Conditions) (x y : Does) → Still cs cs' F → (F → Carried x y) → Carried (provided cs x) (provided cs' y)
  provided_carried cs cs' x y still carried = go (judge cs) refl
    where
      go : (m : ℕ) → judge cs ≡ m → Carried (or_refused m x) (provided cs' y)
      go zero e = let h = judge_passed cs e in rw (judge_all cs' (still.holds h)) (carried (still.shows h))
      go (suc m) e = tt

  pub effect_carried : {F : Type 0} (p : ℤ) (x y : Effect) → Still x.conditions y.conditions F → (F → Agree g.count cells' x.cells y.cells)
      → Carried (effect_does p x) (effect_does p y)
  effect_carried p x y still agree =
      provided_carried x.conditions y.conditions _ _ still λ f. record { cells' = y.cells; does = refl; agree = agree f }

  pub put_carried : {F : Type 0} (p : ℤ) (x y : Effect) → Still x.conditions y.conditions F → (F → y.cells ≡ x.cells) → Carried (put_does p x) (put_does p y)
  put_carried p x y still e = provided_carried x.conditions y.conditions _ _ still λ f. ap (puts (p +ℤ pos 1)) (e f)

  module _ (p : ℤ) (a b c : ℕ) where
    pub floats_carried : (f : ℕ → ℕ → ℕ) → Carried (effect_does p (floats_effect f g a b c cells)) (effect_does p (floats_effect f w a b c cells'))
    unfolding floats_effect
    floats_carried f =
        effect_carried p (floats_effect f g a b c cells) (floats_effect f w a b c cells') (operand float a and operand float b and operand float c)
        λ h. agree_set same c h.1 (ap₂ f (at a h.0.0) (at b h.0.1))

    pub values_carried : (t : ℕ) (f : ℕ → ℕ → ℕ) → Carried (effect_does p (values_effect t f g a b c cells)) (effect_does p (values_effect t f w a b c cells'))
    unfolding values_effect
    values_carried t f =
        effect_carried p (values_effect t f g a b c cells) (values_effect t f w a b c cells')
        (value (must_be_natural t) t a and value (must_be_natural t) t b and operand float c)
        λ h. agree_set same c h.1 (ap₂ f (at a (first_below t a h.0.0)) (at b (first_below t b h.0.1)))

    pub vectors_carried : (ta tb : ℕ) (f : ℕ → ℕ → ℕ) → Carried (effect_does p (vectors_effect ta tb f g a b c cells)) (effect_does p (vectors_effect ta tb f w a b c cells'))
    unfolding vectors_effect vector_result
    vectors_carried ta tb f =
        effect_carried p (vectors_effect ta tb f g a b c cells) (vectors_effect ta tb f w a b c cells') (operand ta a and operand tb b and operand vector c)
        λ h.
        let part : (i : ℕ) → i ≤ 2 → f (get_or cells' (component ta a i) 0) (get_or cells' (component tb b i) 0) ≡ f (get_or cells (component ta a i) 0) (get_or cells (component tb b i) 0) =
        λ i two. ap₂ f (at (component ta a i) (component_below ta a i two h.0.0)) (at (component tb b i) (component_below tb b i two h.0.1)) in
        let last : c + 2 < g.count = h.1 in
        let first = agree_set same c (omega arith) (ap₂ f (at a (first_below ta a h.0.0)) (at b (first_below tb b h.0.1))) in
        agree_set (agree_set first (c + 1) (omega arith) (part 1 (omega arith))) (c + 2) last (part 2 (omega arith))

    pub vectors_to_float_carried : (f : ℕ → ℕ → ℕ → ℕ → ℕ → ℕ → ℕ)
        → Carried (effect_does p (vectors_to_float_effect f g a b c cells)) (effect_does p (vectors_to_float_effect f w a b c cells'))
    unfolding vectors_to_float_effect
    vectors_to_float_carried f =
        effect_carried p (vectors_to_float_effect f g a b c cells) (vectors_to_float_effect f w a b c cells') (operand vector a and operand vector b and operand float c)
        λ h.
        let la : a + 2 < g.count = h.0.0 in
        let lb : b + 2 < g.count = h.0.1 in
        agree_set same c h.1
        (rw (at a (omega arith), at (a + 1) (omega arith), at (a + 2) la, at b (omega arith), at (b + 1) (omega arith), at (b + 2) lb) refl)

    pub strings_carried : (when : Bool) (bytes : List ℕ) → Carried (effect_does p (strings_effect when g bytes a b c cells)) (effect_does p (strings_effect when w bytes a b c cells'))
    unfolding strings_effect
    strings_carried when bytes =
        effect_carried p (strings_effect when g bytes a b c cells) (strings_effect when w bytes a b c cells')
        (unchanged (operand_given a) and unchanged (operand_given b) and texts g more wider same bytes a b (eqb a b) and operand float c)
        λ h. agree_set same c h.1 (ap (λ (q : Bool). flag (beq q when)) h.0.1)

    pub negates_carried : (t : ℕ) (f : ℕ → ℕ) → Carried (effect_does p (negates_effect t f g a b c cells)) (effect_does p (negates_effect t f w a b c cells'))
    unfolding negates_effect
    negates_carried t f =
        effect_carried p (negates_effect t f g a b c cells) (negates_effect t f w a b c cells')
        (unchanged (unused b) and value (must_be_natural t) t a and operand float c)
        λ h. agree_set same c h.1 (ap f (at a (first_below t a h.0.1)))

    pub negates_v_carried : Carried (effect_does p (negates_v_effect g a b c cells)) (effect_does p (negates_v_effect w a b c cells'))
    unfolding negates_v_effect
    negates_v_carried =
        effect_carried p (negates_v_effect g a b c cells) (negates_v_effect w a b c cells') (unchanged (unused b) and operand vector a and operand float c)
        λ h.
        let la : a + 2 < g.count = h.0.1 in
        agree_set same c h.1 (rw (at a (omega arith), at (a + 1) (omega arith), at (a + 2) la) refl)

    pub negates_s_carried : (bytes : List ℕ) → Carried (effect_does p (negates_s_effect g bytes a b c cells)) (effect_does p (negates_s_effect w bytes a b c cells'))
    unfolding negates_s_effect
    negates_s_carried bytes =
        effect_carried p (negates_s_effect g bytes a b c cells) (negates_s_effect w bytes a b c cells')
        (unchanged (unused b) and unchanged (operand_given a) and text g more wider same bytes a and operand float c)
        λ h. agree_set same c h.1 (ap (λ (v : ℕ). flag (eqb a 0 || eqb v 0 || same_text (text_of bytes v) [])) (at a h.0.1))

    pub stores_carried : (t : ℕ) → Carried (effect_does p (stores_effect t g a b c cells)) (effect_does p (stores_effect t w a b c cells'))
    unfolding stores_effect
    stores_carried t =
        effect_carried p (stores_effect t g a b c cells) (stores_effect t w a b c cells') (unchanged (unused c) and value (stored_natural t) t a and operand t b)
        λ h. agree_moved same a b (first_below t a h.0.1) (first_below t b h.1)

    pub stores_v_carried : Carried (effect_does p (stores_v_effect g a b c cells)) (effect_does p (stores_v_effect w a b c cells'))
    unfolding stores_v_effect
    stores_v_carried =
        let raw = reserved_cell b in
        effect_carried p (stores_v_effect g a b c cells) (stores_v_effect w a b c cells')
        (unchanged (unused c) and moves g more wider raw a b and moves g more wider raw (a + 1) (b + 1) and moves g more wider raw (a + 2) (b + 2))
        λ h.
        let first = agree_moved same a b h.0.0.1.0 h.0.0.1.1 in
        let second = agree_moved first (a + 1) (b + 1) h.0.1.0 h.0.1.1 in
        agree_moved second (a + 2) (b + 2) h.1.0 h.1.1

    pub branches_carried : (when : Bool) (by : ℤ) → Carried (branches_do when g p a by cells) (branches_do when w p a by cells')
    unfolding branches_do
    branches_carried when by =
        provided_carried (access g float a) (access w float a) _ _ (operand float a)
        λ h. record {
          cells' = cells';
          does = ap (λ (v : ℕ). next (p +ℤ cond (beq (is_zero v) when) by (pos 1)) cells') (at a h);
          agree = same;
        }
