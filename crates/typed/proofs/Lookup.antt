-- Laws of the type lookup, a definition or two at a time. Assumes nothing.
use Rattle.std.specs.Prelude.{ℕ, zero, suc, ◌+◌, ◌*◌, ◌≤◌, ◌<◌, ◌%◌, ◌/◌, List, [], ◌∷◌, ◌++◌, Option, None, Some, is_some, Bool, true, false, not, ◌&&◌, ◌||◌, cond, eqb, length, get_or, drop}
use Rattle.std.proofs.Common.{◌≡◌, refl, sym, ◌∙◌, arith, true≢false, ne_eqb, length-append, append-nil, drop_at}
use Rattle.std.proofs.lemmas.Bool.{false≢true}
use Rattle.std.proofs.lemmas.List.{get_or_append_left, length-drop, drop-append-le}
use Rattle.definition.specs.declared.Definition.{Definition}
use Rattle.definition.specs.File.{byte_at, u16_at, records, read_definition}
use Rattle.definition.specs.Cells.{type_of, lookup, scalar, passes}
use Rattle.functions.specs.Parts.{definitions_in}
use Rattle.functions.specs.PartLaws.{Same, records_more, definition_local}
use Rattle.typed.specs.Typing.{found, first_in, type_check}

-- ---- the definitions in bytes: x, then more

pub no_more : (part : List ℕ) → length part < 8 → definitions_in part ≡ []
unfolding records
no_more part h = let none : length part / 8 ≡ 0 = omega arith in rw none

module _ (x more : List ℕ) where
  front_same : (i : ℕ) → i + 8 ≤ length x → Same (x ++ more) i x i 8
  unfolding byte_at
  front_same i h = record { byte = λ k l. get_or_append_left x more 0 (i + k) (omega arith) }

  pub one_more : length x ≡ 8 → definitions_in (x ++ more) ≡ read_definition x 0 ∷ definitions_in more
  one_more h =
      records_more read_definition 8 definition_local (omega arith) (x ++ more) (omega (arith, length-append x more))
      ∙ rw (drop_at x more 8 h, definition_local (x ++ more) x 0 0 (front_same 0 (omega arith)))

-- whole definitions, then more
pub some_more : (n : ℕ) (x more : List ℕ) → length x ≡ 8 * n → definitions_in (x ++ more) ≡ definitions_in x ++ definitions_in more
unfolding records
some_more zero [] more e = refl
some_more zero (b ∷ x) more e = absurd (omega (arith, e))
some_more (suc n) x more e =
    let here : definitions_in x ≡ read_definition x 0 ∷ definitions_in (drop 8 x) = records_more read_definition 8 definition_local (omega arith) x (omega (arith, e)) in
    records_more read_definition 8 definition_local (omega arith) (x ++ more) (omega (arith, e, length-append x more))
    ∙ rw (drop-append-le 8 x more (omega (arith, e)), some_more n (drop 8 x) more (omega (arith, e, length-drop 8 x)), here, definition_local (x ++ more) x 0 0 (front_same x more 0 (omega (arith, e))))

-- what is over after whole definitions has none
pub whole_all : (part x more : List ℕ) → part ≡ x ++ more → length x ≡ length part / 8 * 8 → definitions_in x ≡ definitions_in part
whole_all part x more e n =
    let l : length part ≡ length x + length more = rw e (length-append x more) in
    rw (e, some_more (length part / 8) x more (omega (arith, n)), no_more more (omega (arith, n, l)), append-nil (definitions_in x))

-- ---- a search f that gives what it finds first

abbrev or : Option ℕ → Option ℕ → Option ℕ
or None b = b
or (Some t) b = Some t

module _ (f : List Definition → Option ℕ) (append : (ds es : List Definition) → f (ds ++ es) ≡ or (f ds) (f es)) where
  -- whole definitions x, of which it gives o
  module _ (x more : List ℕ) (o : Option ℕ) (whole : length x % 8 ≡ 0) (is : o ≡ f (definitions_in x)) where
    after : f (definitions_in (x ++ more)) ≡ or o (f (definitions_in more))
    after = rw (some_more (length x / 8) x more (omega (arith, whole)), append (definitions_in x) (definitions_in more), ← is)

    kept : is_some o ≡ true → o ≡ f (definitions_in (x ++ more))
    kept s = rw after (go o s)
      where
        go : (o : Option ℕ) → is_some o ≡ true → o ≡ or o (f (definitions_in more))
        go None s = absurd (false≢true s)
        go (Some t) s = refl

    over : is_some o ≡ false → f (definitions_in more) ≡ f (definitions_in (x ++ more))
    over s = rw after (go o s)
      where
        go : (o : Option ℕ) → is_some o ≡ false → f (definitions_in more) ≡ or o (f (definitions_in more))
        go None s = refl
        go (Some t) s = absurd (true≢false s)

  passed : (part x more : List ℕ) (o t : Option ℕ) → part ≡ x ++ more → length x % 8 ≡ 0 → o ≡ f (definitions_in x) → is_some o ≡ false
      → f (definitions_in part) ≡ t → f (definitions_in more) ≡ t
  passed part x more o t e whole is s h = over x more o whole is s ∙ rw e at h

pub twos_left : (part x more : List ℕ) → part ≡ x ++ more → length x ≡ 16 → length part / 8 % 2 ≡ 0 → length more / 8 % 2 ≡ 0
twos_left part x more e n f = omega (arith, rw e at f, n, length-append x more)

-- what is found has a type
found_type : (d : Definition) → found (type_of d) ≡ Some (type_of d)
found_type d = rw (ne_eqb (type_of d) 32768 (λ z. omega arith))

module _ (cell : ℕ) where
  -- ---- the first definition of a cell, void or not

  pub first_none : (part : List ℕ) → length part < 8 → first_in (definitions_in part) cell ≡ None
  unfolding first_in
  first_none part h = rw (no_more part h)

  pub first_of_one : (x more : List ℕ) → length x ≡ 8
      → first_in (definitions_in (x ++ more)) cell ≡ cond (eqb (u16_at x 2) cell) (Some (u16_at x 0 % 32768)) (first_in (definitions_in more) cell)
  unfolding first_in
  first_of_one x more h = rw (one_more x more h)

  first_append : (ds es : List Definition) → first_in (ds ++ es) cell ≡ or (first_in ds cell) (first_in es cell)
  unfolding first_in
  first_append [] es = refl
  first_append (d ∷ ds) es = go (eqb d.offset cell) (first_append ds es)
    where
      go : (b : Bool) → first_in (ds ++ es) cell ≡ or (first_in ds cell) (first_in es cell)
          → cond b (Some (type_of d)) (first_in (ds ++ es) cell) ≡ or (cond b (Some (type_of d)) (first_in ds cell)) (first_in es cell)
      go true e = refl
      go false e = e

  pub first_kept : (x more : List ℕ) (o : Option ℕ) → length x % 8 ≡ 0 → o ≡ first_in (definitions_in x) cell → is_some o ≡ true → o ≡ first_in (definitions_in (x ++ more)) cell
  first_kept = kept (λ ds. first_in ds cell) first_append

  pub first_passed : (part x more : List ℕ) (o t : Option ℕ) → part ≡ x ++ more → length x % 8 ≡ 0 → o ≡ first_in (definitions_in x) cell → is_some o ≡ false
      → first_in (definitions_in part) cell ≡ t → first_in (definitions_in more) cell ≡ t
  first_passed = passed (λ ds. first_in ds cell) first_append

  -- ---- the first definition of a cell that isn't void

  pub lookup_none : (part : List ℕ) → length part < 8 → lookup (definitions_in part) cell ≡ 32768
  unfolding lookup
  lookup_none part h = rw (no_more part h)

  pub lookup_one : (x more : List ℕ) → length x ≡ 8
      → lookup (definitions_in (x ++ more)) cell ≡ cond (eqb (u16_at x 2) cell && not (eqb (u16_at x 0 % 32768) 0)) (u16_at x 0 % 32768) (lookup (definitions_in more) cell)
  unfolding lookup
  lookup_one x more h = rw (one_more x more h)

  found_append : (ds es : List Definition) → found (lookup (ds ++ es) cell) ≡ or (found (lookup ds cell)) (found (lookup es cell))
  unfolding lookup
  found_append [] es = refl
  found_append (d ∷ ds) es = go (eqb d.offset cell && not (eqb (type_of d) 0)) (found_append ds es)
    where
      go : (b : Bool) → found (lookup (ds ++ es) cell) ≡ or (found (lookup ds cell)) (found (lookup es cell))
          → found (cond b (type_of d) (lookup (ds ++ es) cell)) ≡ or (found (cond b (type_of d) (lookup ds cell))) (found (lookup es cell))
      go true e = rw (found_type d)
      go false e = e

  pub found_kept : (x more : List ℕ) (o : Option ℕ) → length x % 8 ≡ 0 → o ≡ found (lookup (definitions_in x) cell) → is_some o ≡ true
      → o ≡ found (lookup (definitions_in (x ++ more)) cell)
  found_kept = kept (λ ds. found (lookup ds cell)) found_append

  pub found_passed : (part x more : List ℕ) (o t : Option ℕ) → part ≡ x ++ more → length x % 8 ≡ 0 → o ≡ found (lookup (definitions_in x) cell) → is_some o ≡ false
      → found (lookup (definitions_in part) cell) ≡ t → found (lookup (definitions_in more) cell) ≡ t
  found_passed = passed (λ ds. found (lookup ds cell)) found_append

-- ---- the first definition, where it isn't void, is what a lookup gives

module _ (cell : ℕ) where
  pub first_binds : (ds : List Definition) (t : ℕ) → first_in ds cell ≡ Some t → (t ≡ 0 → ⊥) → found (lookup ds cell) ≡ Some t
  unfolding first_in lookup
  first_binds [] t e h = cc
  first_binds (d ∷ ds) t e h = go (eqb d.offset cell) e (first_binds ds t)
    where
      go : (b : Bool) → cond b (Some (type_of d)) (first_in ds cell) ≡ Some t
          → (first_in ds cell ≡ Some t → (t ≡ 0 → ⊥) → found (lookup ds cell) ≡ Some t)
          → found (cond (b && not (eqb (type_of d) 0)) (type_of d) (lookup ds cell)) ≡ Some t
      go true k after = let e : type_of d ≡ t = cc in rw (ne_eqb (type_of d) 0 (λ z. h (sym e ∙ z)), found_type d, e)
      go false k after = after k h

  pub none_first : (ds : List Definition) → first_in ds cell ≡ None → found (lookup ds cell) ≡ None
  unfolding first_in lookup
  none_first [] e = refl
  none_first (d ∷ ds) e = go (eqb d.offset cell) e (none_first ds)
    where
      go : (b : Bool) → cond b (Some (type_of d)) (first_in ds cell) ≡ None → (first_in ds cell ≡ None → found (lookup ds cell) ≡ None)
          → found (cond (b && not (eqb (type_of d) 0)) (type_of d) (lookup ds cell)) ≡ None
      go true k after = cc
      go false k after = after k

  -- a definition's cell has 16 bits
  pub none_so_high : (defs : List ℕ) → ((k : ℕ) → get_or defs k 0 < 256) → 65536 ≤ cell → found (lookup (definitions_in defs) cell) ≡ None
  unfolding records lookup u16_at byte_at
  none_so_high defs bytes high = go (length defs / 8) 0
    where
      short : (at : ℕ) → u16_at defs at < 65536
      short at = omega (arith, bytes at, bytes (at + 1))

      go : (n at : ℕ) → found (lookup (records (read_definition defs) 8 n at) cell) ≡ None
      go zero at = refl
      go (suc n) at = rw (ne_eqb (u16_at defs (at + 2)) cell (λ z. omega (arith, short (at + 2)))) (go n (at + 8))

-- ---- the type check

module _ (want cell : ℕ) where
  pub type_of_none : (defs : List ℕ) → length defs ≡ 0 → type_check (definitions_in defs) want cell ≡ true
  unfolding type_check passes lookup
  type_of_none defs h = rw (no_more defs (omega arith))

  module _ (ds : List Definition) where
    pub type_of_untyped : found (lookup ds cell) ≡ None → type_check ds want cell ≡ true
    unfolding type_check passes
    type_of_untyped e = go (eqb (lookup ds cell) 32768) e
      where
        go : (b : Bool) → cond b None (Some (lookup ds cell)) ≡ None → (b || eqb (scalar (lookup ds cell)) (scalar want)) ≡ true
        go true k = refl
        go false k = cc

    pub type_of_typed : (t : ℕ) → found (lookup ds cell) ≡ Some t → type_check ds want cell ≡ eqb (scalar t) (scalar want)
    unfolding type_check passes
    type_of_typed t e = go (eqb (lookup ds cell) 32768) e
      where
        go : (b : Bool) → cond b None (Some (lookup ds cell)) ≡ Some t → (b || eqb (scalar (lookup ds cell)) (scalar want)) ≡ eqb (scalar t) (scalar want)
        go true k = cc
        go false k = cc
