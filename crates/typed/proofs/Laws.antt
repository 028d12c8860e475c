-- Laws of conditions checked one after the other. Assumes nothing.
use Rattle.std.specs.Prelude.{ℕ, suc, ◌+◌, ◌-◌, ◌<◌, ◌≤◌, List, [], ◌∷◌, ◌++◌, Bool, not, ◌&&◌, get_or, eqb, ltb}
use Rattle.std.proofs.Math.Path.{◌≡◌, refl}
use Rattle.std.proofs.Common.{sym, ap, ◌∙◌, arith}
use Rattle.std.proofs.Math.Bool.{true, false, cond}
use borrow.Author.Tests.{eq-eqb, ne_eqb, eqb-true, eqb-false, lt-ltb, le-ltb, ltb-true}
use Rattle.definition.specs.Checks.{Condition, Conditions, ◌otherwise◌, judge}
use Rattle.definition.specs.File.{negative}
use Rattle.definition.specs.Cells.{Typing, lookup, scalar, passes, cell_access, vector_access, access, read_access, field_cell_access, field_access}
use Rattle.definition.specs.Statements.{component}
use Rattle.definition.proofs.CheckLaws.{judge_append}
use Rattle.typed.specs.Typing.{type_check}
use Rattle.typed.specs.Checking.{first, one_access, each_refusal, Reaches}

-- ---- one refusal after another

pub judge_both : (cs ds : Conditions) → judge (cs ++ ds) ≡ first (judge cs) (judge ds)
unfolding first
judge_both cs ds = judge_append cs ds

module _ (r a b : ℕ) where
  pub stop : (r ≡ 0 → ⊥) → r ≡ a → r ≡ first a b
  unfolding first
  stop h e = rw (← e, ne_eqb r 0 h)

  pub go_on : a ≡ 0 → r ≡ b → r ≡ first a b
  unfolding first
  go_on h e = rw (eq-eqb a 0 h) e

-- the check before, whose number is x, passed
pub passed : {x a r b : ℕ} → x ≡ a → x ≡ 0 → r ≡ b → r ≡ first a b
passed e z h = go_on _ _ _ (sym e ∙ z) h

pub neither : (a b : ℕ) → first a b ≡ 0 → (a ≡ 0) × (b ≡ 0)
unfolding first
neither a b e = go (eqb a 0) refl e
  where
    go : (t : Bool) → eqb a 0 ≡ t → cond t b a ≡ 0 → (a ≡ 0) × (b ≡ 0)
    go true p e = (eqb-true a 0 p, e)
    go false p e = absurd (eqb-false a 0 p e)

pub first_first : (a b c : ℕ) → first (first a b) c ≡ first a (first b c)
unfolding first
first_first a b c = go (eqb a 0) refl
  where
    go : (t : Bool) → eqb a 0 ≡ t → cond (eqb (cond t b a) 0) c (cond t b a) ≡ cond t (cond (eqb b 0) c b) a
    go true p = refl
    go false p = rw p

first_none : (a : ℕ) → first a 0 ≡ a
unfolding first
first_none a = go (eqb a 0) refl
  where
    go : (t : Bool) → eqb a 0 ≡ t → cond t 0 a ≡ a
    go true p = sym (eqb-true a 0 p)
    go false p = refl

pub judge_three : (cs ds es : Conditions) → judge (cs ++ ds ++ es) ≡ first (judge cs) (first (judge ds) (judge es))
judge_three cs ds es = judge_both (cs ++ ds) es ∙ rw (judge_both cs ds) (first_first _ _ _)

pub judge_four : (cs ds es fs : Conditions) → judge (cs ++ ds ++ es ++ fs) ≡ first (judge cs) (first (judge ds) (first (judge es) (judge fs)))
judge_four cs ds es fs = judge_both (cs ++ ds ++ es) fs ∙ rw (judge_three cs ds es) (first_first _ _ _ ∙ ap (first (judge cs)) (first_first _ _ _))

-- ---- one condition before others

pub nothing : 0 ≡ judge []
unfolding judge
nothing = refl

module _ (x : Condition) (cs : Conditions) where
  pub fails : x.holds ≡ false → suc x.number_less_one ≡ judge (x ∷ cs)
  unfolding judge
  fails h = rw h

  pub holds : (r : ℕ) → x.holds ≡ true → r ≡ judge cs → r ≡ judge (x ∷ cs)
  unfolding judge
  holds r h e = rw h e

  pub all_held : judge (x ∷ cs) ≡ 0 → judge cs ≡ 0
  unfolding judge
  all_held e = go x.holds e
    where
      go : (t : Bool) → cond t (judge cs) (suc x.number_less_one) ≡ 0 → judge cs ≡ 0
      go true e = e
      go false e = absurd (omega arith)

-- ---- a typed access

module _ (g : Typing) (want cell : ℕ) where
  pub cell_other : passes (lookup g.definitions cell) want ≡ false → 16 ≡ judge (cell_access g want cell)
  unfolding cell_access judge
  cell_other h = rw h

  pub other : false ≡ type_check g.definitions want cell → passes (lookup g.definitions cell) want ≡ false
  unfolding type_check
  other e = sym e

  pub cell_untyped : false ≡ type_check g.definitions want cell → 16 ≡ judge (cell_access g want cell)
  cell_untyped e = cell_other (other e)

  pub field_untyped : false ≡ type_check g.definitions want cell → 16 ≡ judge (field_cell_access g want cell)
  unfolding field_cell_access judge
  field_untyped e = rw (other e)

  module _ (e : true ≡ type_check g.definitions want cell) where
    pub typed : passes (lookup g.definitions cell) want ≡ true
    unfolding type_check
    typed = sym e

    pub cell_below : cell < g.count → 0 ≡ judge (cell_access g want cell)
    unfolding cell_access judge
    cell_below h = rw (typed, lt-ltb cell g.count h)

    pub cell_above : g.count ≤ cell → 15 ≡ judge (cell_access g want cell)
    unfolding cell_access judge
    cell_above h = rw (typed, le-ltb cell g.count h)

    -- of an entity's cells
    pub field_below : cell < g.count → 0 ≡ judge (field_cell_access g want cell)
    unfolding field_cell_access judge
    field_below h = rw (typed, lt-ltb cell g.count h)

    pub field_above : g.count ≤ cell → 31 ≡ judge (field_cell_access g want cell)
    unfolding field_cell_access judge
    field_above h = rw (typed, le-ltb cell g.count h)

  -- n + 1 is the number of an address that is too high
  pub typed_below : (n : ℕ) → cond (passes (lookup g.definitions cell) want) (cond (ltb cell g.count) 0 (suc n)) 16 ≡ 0 → cell < g.count
  typed_below n e = go (passes (lookup g.definitions cell) want) (ltb cell g.count) refl e
    where
      go : (p q : Bool) → ltb cell g.count ≡ q → cond p (cond q 0 (suc n)) 16 ≡ 0 → cell < g.count
      go true true k e = ltb-true _ _ k
      go true false k e = absurd (omega arith)
      go false q k e = absurd (omega arith)

  pub cell_reach : judge (cell_access g want cell) ≡ 0 → cell < g.count
  unfolding cell_access judge
  cell_reach e = typed_below 14 e

  pub field_cell_reach : judge (field_cell_access g want cell) ≡ 0 → cell < g.count
  unfolding field_cell_access judge
  field_cell_reach e = typed_below 30 e

-- of the cells or of an entity's: n is the number for a cell that isn't below the count
pub one_reach : (n : ℕ) (g : Typing) (want cell : ℕ) → judge (one_access n g want cell) ≡ 0 → cell < g.count
unfolding judge one_access
one_reach n g want cell e = typed_below g want cell (n - 1) e

-- what passes for a float passes for a vector
vector_passes : (t : ℕ) → passes t 3 ≡ passes t 2
unfolding passes scalar
vector_passes t = refl

pub vector_as_floats : (g : Typing) (r cell : ℕ)
    → r ≡ first (judge (cell_access g 2 cell)) (first (judge (cell_access g 2 (cell + 1))) (judge (cell_access g 2 (cell + 2))))
    → r ≡ judge (vector_access g cell)
unfolding vector_access
vector_as_floats g r cell e = go (passes (lookup g.definitions cell) 2) refl
  where
    go : (t : Bool) → passes (lookup g.definitions cell) 2 ≡ t → r ≡ judge (vector_access g cell)
    go true h = holds _ _ r (vector_passes _ ∙ h) (e ∙ sym (judge_three (cell_access g 2 cell) (cell_access g 2 (cell + 1)) (cell_access g 2 (cell + 2))))
    go false h = (e ∙ sym (stop 16 _ _ (λ z. omega arith) (cell_other g 2 cell h))) ∙ fails _ _ (vector_passes _ ∙ h)

pub access_vector : (g : Typing) (r want cell : ℕ) → want ≡ 3 → r ≡ judge (vector_access g cell) → r ≡ judge (access g want cell)
unfolding access
access_vector g r want cell h e = rw h e

pub access_cell : (g : Typing) (r want cell : ℕ) → (want ≡ 3 → ⊥) → r ≡ judge (cell_access g want cell) → r ≡ judge (access g want cell)
unfolding access
access_cell g r want cell h e = rw (ne_eqb want 3 h) e

pub access_each : (g : Typing) (want cell : ℕ) → each_refusal 15 g want cell ≡ judge (access g want cell)
unfolding access cell_access one_access each_refusal
access_each g want cell = go (eqb want 3)
  where
    go : (t : Bool) → cond t (first (judge (one_access 15 g 2 cell)) (first (judge (one_access 15 g 2 (cell + 1))) (judge (one_access 15 g 2 (cell + 2))))) (judge (one_access 15 g want cell))
        ≡ judge (cond t (vector_access g cell) (cell_access g want cell))
    go true = vector_as_floats g _ cell refl
    go false = refl

-- ---- an access of a field

pub field_vector : (h : Typing) (r want field : ℕ) → want ≡ 3
    → r ≡ first (judge (field_cell_access h 2 field)) (first (judge (field_cell_access h 2 (field + 1))) (judge (field_cell_access h 2 (field + 2))))
    → r ≡ judge (field_access h want field)
unfolding field_access
field_vector h r want field k e =
    rw k (e ∙ sym (judge_three (field_cell_access h 2 field) (field_cell_access h 2 (field + 1)) (field_cell_access h 2 (field + 2))))

pub field_single : (h : Typing) (r want field : ℕ) → (want ≡ 3 → ⊥) → r ≡ judge (field_cell_access h want field) → r ≡ judge (field_access h want field)
unfolding field_access
field_single h r want field k e = rw (ne_eqb want 3 k) e

pub field_each : (h : Typing) (want field : ℕ) → each_refusal 31 h want field ≡ judge (field_access h want field)
unfolding field_access field_cell_access one_access each_refusal
field_each h want field = go (eqb want 3)
  where
    go : (t : Bool) → cond t (first (judge (one_access 31 h 2 field)) (first (judge (one_access 31 h 2 (field + 1))) (judge (one_access 31 h 2 (field + 2))))) (judge (one_access 31 h want field))
        ≡ judge (cond t (field_cell_access h 2 field ++ field_cell_access h 2 (field + 1) ++ field_cell_access h 2 (field + 2)) (field_cell_access h want field))
    go true = sym (judge_three (field_cell_access h 2 field) (field_cell_access h 2 (field + 1)) (field_cell_access h 2 (field + 2)))
    go false = refl

-- ---- how far an accepted access reaches

access_last : (g : Typing) (want cell : ℕ) → judge (access g want cell) ≡ 0 → component want cell 2 < g.count
unfolding access vector_access
access_last g want cell e = go (eqb want 3) e
  where
    go : (t : Bool) → judge (cond t (vector_access g cell) (cell_access g want cell)) ≡ 0 → cond t (cell + 2) cell < g.count
    go true e =
        let three = sym (judge_three (cell_access g 2 cell) (cell_access g 2 (cell + 1)) (cell_access g 2 (cell + 2))) ∙ all_held _ _ e in
        cell_reach g 2 (cell + 2) (neither _ _ (neither _ _ three).1).1
    go false e = cell_reach g want cell e

-- the last component is the highest
pub reaches : (t cell n : ℕ) → component t cell 2 < n → Reaches t cell n
reaches t cell n h = go (eqb t 3) refl h
  where
    go : (b : Bool) → eqb t 3 ≡ b → cond b (cell + 2) cell < n → Reaches t cell n
    go true p h = record { first_below = omega arith; second_below = rw p (omega arith); third_below = rw p h }
    go false p h = record { first_below = h; second_below = rw p h; third_below = rw p h }

pub reach : (g : Typing) (t cell : ℕ) → judge (access g t cell) ≡ 0 → Reaches t cell g.count
reach g t cell e = reaches t cell g.count (access_last g t cell e)

pub field_reach : (h : Typing) (t field : ℕ) → judge (field_access h t field) ≡ 0 → Reaches t field h.count
unfolding field_access
field_reach h t field e = reaches t field h.count (go (eqb t 3) e)
  where
    three : Conditions
    three = field_cell_access h 2 field ++ field_cell_access h 2 (field + 1) ++ field_cell_access h 2 (field + 2)

    go : (b : Bool) → judge (cond b three (field_cell_access h t field)) ≡ 0 → cond b (field + 2) field < h.count
    go true e =
        let e3 = sym (judge_three (field_cell_access h 2 field) (field_cell_access h 2 (field + 1)) (field_cell_access h 2 (field + 2))) ∙ e in
        field_cell_reach h 2 (field + 2) (neither _ _ (neither _ _ e3).1).1
    go false e = field_cell_reach h t field e

pub widen : {t cell m n : ℕ} → Reaches t cell m → m ≤ n → Reaches t cell n
widen h k =
    record {
      first_below = omega (arith, h.first_below);
      second_below = omega (arith, h.second_below);
      third_below = omega (arith, h.third_below);
    }

pub access_first : (g : Typing) (want cell : ℕ) → judge (access g want cell) ≡ 0 → cell < g.count
access_first g want cell e = (reach g want cell e).first_below

-- the cell of a component, by the type of its operand
module _ (t cell i : ℕ) where
  pub component_vector : t ≡ 3 → component t cell i ≡ cell + i
  component_vector h = rw (eq-eqb t 3 h)

  pub component_float : (t ≡ 3 → ⊥) → component t cell i ≡ cell
  component_float h = rw (ne_eqb t 3 h)

-- ---- a read of a value

module _ (g : Typing) (must : Bool) (t cell : ℕ) (cells : List ℕ) where
  pub read_firsts : judge (read_access g must t cell cells) ≡ first (judge (access g t cell)) (judge ((not (must && negative (get_or cells cell 0)) otherwise 17) ∷ []))
  unfolding read_access
  read_firsts = judge_both (access g t cell) _

  pub read_stops : (r : ℕ) → (r ≡ 0 → ⊥) → r ≡ judge (access g t cell) → r ≡ judge (read_access g must t cell cells)
  read_stops r h e = rw read_firsts (stop r _ _ h e)

  pub read_refused : judge (access g t cell) ≡ 0 → (must && negative (get_or cells cell 0)) ≡ true → 17 ≡ judge (read_access g must t cell cells)
  read_refused h e = rw read_firsts (go_on 17 _ _ h (fails _ _ (ap not e)))

  pub read_accepted : judge (access g t cell) ≡ 0 → (must && negative (get_or cells cell 0)) ≡ false → 0 ≡ judge (read_access g must t cell cells)
  read_accepted h e = rw read_firsts (go_on 0 _ _ h (holds _ [] 0 (ap not e) nothing))

  pub read_reach : judge (read_access g must t cell cells) ≡ 0 → Reaches t cell g.count
  read_reach e = reach g t cell (neither _ _ (sym read_firsts ∙ e)).0

-- a read that 17 can't refuse is an access
pub read_plain : (g : Typing) (t cell : ℕ) (cells : List ℕ) → judge (read_access g false t cell cells) ≡ judge (access g t cell)
unfolding judge
read_plain g t cell cells = read_firsts g false t cell cells ∙ first_none _
