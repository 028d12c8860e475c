-- THE LOOKUP OF A TYPE, 01's sentence with document 02's R-5, of any number of definitions: "takes the first global definition, in file order, with that
-- cell", "Void definitions are passed over", "a cell without a definition passes". The five laws leave one function: each definition in turn is passed over, or
-- is the first that isn't. Types and the save flag are in 01's numbers here.
use Rattle.std.specs.Prelude.{ℕ, ◌%◌, ◌≡◌, refl, List, [], ◌∷◌, ◌++◌, Bool, true, false, ◌&&◌, cond, eqb}
use Rattle.std.proofs.Common.{ap, eq-eqb, ne_eqb}
use Rattle.definition.specs.declared.Definition.{Definition}
use Rattle.definition.specs.Cells.{type_of, binds, lookup, passes}

and_false : (b : Bool) → (b && false) ≡ false
and_false true = refl
and_false false = refl

-- ---- what is passed over

-- a definition without which the lookup finds the same, wherever it stands
abbrev PassedOver : Definition → ℕ → Type 0
PassedOver d cell = (before behind : List Definition) → lookup (before ++ d ∷ behind) cell ≡ lookup (before ++ behind) cell

unbinding : (d : Definition) (cell : ℕ) → binds d cell ≡ false → PassedOver d cell
unfolding lookup
unbinding d cell e [] behind = rw e refl
unbinding d cell e (x ∷ before) behind = ap (λ (t : ℕ). cond (binds x cell) (type_of x) t) (unbinding d cell e before behind)

-- a void one, with the save flag or without, whatever its cell
pub void_passed_over : (d : Definition) (cell : ℕ) → d.kind % 32768 ≡ 0 → PassedOver d cell
void_passed_over d cell e = unbinding d cell (rw (eq-eqb (d.kind % 32768) 0 e) (and_false (eqb d.offset cell)))

-- another cell's, whatever its type
pub other_passed_over : (d : Definition) (cell : ℕ) → (d.offset ≡ cell → ⊥) → PassedOver d cell
other_passed_over d cell n = unbinding d cell (rw (ne_eqb d.offset cell n) refl)

-- ---- what is found

-- the first that is neither: its type, the save flag apart
pub first_found : (d : Definition) (behind : List Definition) → (d.kind % 32768 ≡ 0 → ⊥) → lookup (d ∷ behind) d.offset ≡ d.kind % 32768
unfolding lookup
first_found d behind n = rw (eq-eqb d.offset d.offset refl, ne_eqb (d.kind % 32768) 0 n) refl

-- none: no definition's type, and an access of any type passes
pub none_found : (cell : ℕ) → lookup [] cell ≡ 32768
unfolding lookup
none_found cell = refl

pub none_passes : (cell want : ℕ) → passes (lookup [] cell) want ≡ true
unfolding lookup passes
none_passes cell want = refl
