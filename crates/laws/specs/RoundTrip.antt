-- THE ROUND TRIP of a field, document 02's R-3: a pointer made by Address, and stored through at once, writes the field that a load of the same entity and
-- field reads. So a pointer names what its entity and field name. Also where an Address completes, and that the pointer which it made is never a reason to
-- refuse the store.
use Rattle.std.specs.Prelude.{ℕ, zero, suc, ◌+◌, ◌*◌, ◌/◌, ◌%◌, ◌≤◌, ◌<◌, ◌≡◌, ◌≢◌, Bool, false, not, ◌&&◌, ◌||◌, cond, pos, ◌+ℤ◌, set, eqb}
use Rattle.std.proofs.Math.Path.{refl, ap, subst}
use Rattle.std.proofs.Common.{sym, ◌∙◌, arith, add-zero, mul-div_cancel, mod-eq_of_lt, div-lt_iff_lt-mul}
use mathlib.Core.List.{List, [], ◌∷◌, ◌++◌}
use Rattle.std.proofs.Math.Bool.{true}
use Rattle.std.proofs.Math.Nat.{mul-mod_left, mul-add-mod_self_right}
use Rattle.std.proofs.Math.ListN.{length, get_or, length-set}
use Rattle.std.proofs.Math.Seq.{get_or-set_same, get_or-set_other}
use Rattle.std.proofs.Math.Dec.{ltb}
use borrow.Author.Tests.{ltb-true, leb-true, lt-ltb, le-leb, lt-leb, eq-eqb}
use Rattle.definition.specs.declared.Statement.{Statement}
use Rattle.definition.specs.Checks.{Conditions, ◌otherwise◌, judge}
use Rattle.definition.specs.File.{greatest_pointer, contents_of, negative}
use Rattle.definition.specs.Cells.{string, vector, entity, field, pointer, cell_of, Typing, typing_of, fields_of, must_be_natural, access, read_access, field_access}
use Rattle.definition.specs.Statements.{Entities, Does, or_refused, provided, unused, value_moved, stored_natural, points_at_field, stores_p_effect, loads_effect, addresses_effect, Effect, effect_does, put_does, fetch_conditions, Tables, tables_of, execute_as, execute, does_at}
use Rattle.definition.specs.Statements.{Shape, loads, addresses, stores_p, opcodes, shape_of}
use Rattle.definition.specs.Machine.{Program, Config, entities_of, advanced, completed, step_as, step}
use Rattle.definition.specs.Load.{program_with, program_of}
use Rattle.definition.specs.CheckLaws.{All}
use Rattle.definition.proofs.CheckLaws.{judge_passed, judge_all, and_both, all_front, all_back, all_both}
use Rattle.definition.proofs.StatementLaws.{fields_below, access_last, entity_cell}
use Rattle.laws.specs.Entities.{width_of, Written, moved_written, width_inside, at}

-- ---- Address alone

-- its three operands' accesses hold, the entity is there, the field is one of its cells, and the pointer to be made is not over 2,147,483,647
pub record Addressable (g h : Typing) (e : Entities) (a b c : ℕ) (cells : List ℕ) : Type 0 where
  pub reads_entity : All (read_access g (must_be_natural entity) entity a cells)
  pub reads_field : All (read_access g (must_be_natural field) field b cells)
  pub writes_pointer : All (access g pointer c)
  pub there : get_or cells a 0 < e.count
  pub inside : get_or cells b 0 < h.count
  pub in_range : (get_or cells a 0 * h.count + get_or cells b 0) * 4 ≤ greatest_pointer

module _ (g h : Typing) (e : Entities) (a b c : ℕ) (cells : List ℕ) where
  abbrev entity_read : Conditions
  entity_read = read_access g (must_be_natural entity) entity a cells

  abbrev field_read : Conditions
  field_read = read_access g (must_be_natural field) field b cells

  abbrev reads : Conditions
  reads = entity_read ++ field_read

  addressable : All (addresses_effect g h e a b c cells).conditions → Addressable g h e a b c cells
  unfolding addresses_effect
  addressable q =
      let operands = all_front (reads ++ access g pointer c) _ q in
      let limits = all_back (reads ++ access g pointer c) _ q in
      record {
        reads_entity = all_front entity_read field_read (all_front reads (access g pointer c) operands);
        reads_field = all_back entity_read field_read (all_front reads (access g pointer c) operands);
        writes_pointer = all_back reads (access g pointer c) operands;
        there = ltb-true _ _ limits.0;
        inside = ltb-true _ _ limits.1.0;
        in_range = leb-true _ _ limits.1.1.0;
      }

  addressable_all : Addressable g h e a b c cells → All (addresses_effect g h e a b c cells).conditions
  unfolding addresses_effect
  addressable_all m =
      all_both (reads ++ access g pointer c) _
      (all_both reads (access g pointer c) (all_both entity_read field_read m.reads_entity m.reads_field) m.writes_pointer)
      (lt-ltb _ _ m.there, (lt-ltb _ _ m.inside, (le-leb _ _ m.in_range, tt)))

-- ---- the round trip: Address, then StoreP through the pointer that it made, then a Load of the same entity and field

-- 17 of a value that was read and stored is not met when it is loaded
natural_again : (m n x : Bool) → not (m && x) ≡ true → not (n && x) ≡ true → not ((m || n) && x) ≡ true
natural_again true n x p q = p
natural_again false n x p q = q

-- the operands of the three: the entity and the field, which the first and the last share; the pointer, which the first makes and the second goes through; the
-- value, and the operand that the second does not use; the destination of the last
pub record Operands : Type 0 where
  pub of_entity : ℕ
  pub of_field : ℕ
  pub of_pointer : ℕ
  pub of_value : ℕ
  pub of_none : ℕ
  pub of_destination : ℕ

-- the cells that they name
abbrev pub cells_of : Operands → Operands
cells_of o =
    record {
      of_entity = cell_of o.of_entity;
      of_field = cell_of o.of_field;
      of_pointer = cell_of o.of_pointer;
      of_value = cell_of o.of_value;
      of_none = cell_of o.of_none;
      of_destination = cell_of o.of_destination;
    }

-- Address of the entity in a and the field in b to c; a store of the value of type t in s through c, with u for its third operand; a load of the entity in a
-- and the field in b to d
module _ (t : ℕ) (g h : Typing) (e : Entities) (o : Operands) (cells : List ℕ) where
  abbrev a : ℕ
  a = o.of_entity

  abbrev b : ℕ
  b = o.of_field

  abbrev c : ℕ
  c = o.of_pointer

  abbrev s : ℕ
  s = o.of_value

  abbrev u : ℕ
  u = o.of_none

  abbrev d : ℕ
  d = o.of_destination

  -- the cells after the Address
  abbrev pub pointed : List ℕ
  pointed = (addresses_effect g h e a b c cells).cells

  -- the entities after the store
  abbrev pub stored : Entities
  stored = record { count = e.count; cells = (stores_p_effect t g h e s c u pointed).cells }

  -- the load
  abbrev pub reloaded : Effect
  reloaded = loads_effect t g h stored a b d pointed

  abbrev number : ℕ
  number = get_or cells a 0

  abbrev named : ℕ
  named = get_or cells b 0

  abbrev place : ℕ
  place = number * h.count + named

  -- what the Address was accepted for
  abbrev Made : Type 0
  Made = Addressable g h e a b c cells

  -- the pointer that was made, in lent cells that are as many as 13 asks
  module _ (enough : g.count ≤ length cells) (m : Made) where
    the_pointer : get_or pointed c 0 ≡ place * 4
    unfolding addresses_effect
    the_pointer = get_or-set_same cells c _ 0 (omega (arith, access_last g pointer c m.writes_pointer, enough))

    its_place : get_or pointed c 0 / 4 ≡ place
    its_place = ap (λ (p : ℕ). p / 4) the_pointer ∙ mul-div_cancel place (omega arith)

    its_field : get_or pointed c 0 / 4 % h.count ≡ named
    its_field = ap (λ (p : ℕ). p % h.count) its_place ∙ mul-add-mod_self_right number h.count named ∙ mod-eq_of_lt m.inside

    -- it is not negative, a multiple of 4 and not past the last entity
    points : points_at_field h e (get_or pointed c 0) ≡ true
    points =
        let positive : not (negative (get_or pointed c 0)) ≡ true = rw (the_pointer, lt-leb 2147483648 (place * 4) (omega (arith, m.in_range))) in
        let fourth : get_or pointed c 0 % 4 ≡ 0 = ap (λ (p : ℕ). p % 4) the_pointer ∙ mul-mod_left place 4 in
        let owner : place / h.count < e.count =
        ((div-lt_iff_lt-mul {k = h.count} {x = place} {y = e.count} (omega (arith, m.inside))).1 (entity_cell e.count h.count number named m.there m.inside))
        in
        and_both (not (negative (get_or pointed c 0)) && eqb (get_or pointed c 0 % 4) 0) _ (and_both _ _ positive (eq-eqb _ 0 fourth))
        (rw its_place (lt-ltb (place / h.count) e.count owner))

    -- a store through it is refused for nothing but its third operand, its value and the field's type and cells: never 32, 16 or 15 for the pointer
    store_passes : u ≡ 0 → All (read_access g (must_be_natural t) t s pointed) → All (field_access h t named)
        → not (eqb t string && negative (get_or pointed s 0)) ≡ true → All (stores_p_effect t g h e s c u pointed).conditions
    unfolding stores_p_effect
    store_passes none value_passes field_passes natural =
        let p = get_or pointed c 0 in
        let value = read_access g (must_be_natural t) t s pointed in
        let read = unused u ++ value in
        let there : Conditions = (points_at_field h e p otherwise 32) ∷ [] in
        let fa = field_access h t (p / 4 % h.count) in
        all_both (read ++ access g pointer c ++ there ++ fa) _
        (all_both (read ++ access g pointer c ++ there) fa
        (all_both (read ++ access g pointer c) there
        (all_both read (access g pointer c) (all_both (unused u) value (eq-eqb u 0 none, tt) value_passes) m.writes_pointer)
        (points, tt))
        (subst (λ (f : ℕ). All (field_access h t f)) (sym its_field) field_passes))
        (natural, tt)

  -- demand 1's acceptance, of a store through the pointer that an accepted Address made
  pub store_accepted : g.count ≤ length cells → All (addresses_effect g h e a b c cells).conditions → u ≡ 0
      → All (read_access g (must_be_natural t) t s pointed) → All (field_access h t (get_or cells b 0)) → not (eqb t string && negative (get_or pointed s 0)) ≡ true
      → All (stores_p_effect t g h e s c u pointed).conditions
  store_accepted enough pointing = store_passes enough (addressable g h e a b c cells pointing)

  -- what the store was accepted for
  record Passed : Type 0 where
    natural_read : not (must_be_natural t && negative (get_or pointed s 0)) ≡ true
    field_of : All (field_access h t (get_or pointed c 0 / 4 % h.count))
    natural_string : not (eqb t string && negative (get_or pointed s 0)) ≡ true

  passed : All (stores_p_effect t g h e s c u pointed).conditions → Passed
  unfolding stores_p_effect read_access
  passed q =
      let p = get_or pointed c 0 in
      let last = (not (must_be_natural t && negative (get_or pointed s 0)) otherwise 17) ∷ [] in
      let read = unused u ++ (access g t s ++ last) in
      let ap = access g pointer c in
      let there = (points_at_field h e p otherwise 32) ∷ [] in
      let fa = field_access h t (p / 4 % h.count) in
      let front = all_front (read ++ ap ++ there ++ fa) _ q in
      let reading = all_front read ap (all_front (read ++ ap) there (all_front (read ++ ap ++ there) fa front)) in
      record {
        natural_read = (all_back (access g t s) last (all_back (unused u) (access g t s ++ last) reading)).0;
        field_of = all_back (read ++ ap ++ there) fa front;
        natural_string = (all_back (read ++ ap ++ there ++ fa) _ q).0;
      }

  -- the pointer does not replace the entity or the field, and the lent cells and entity cells are as many as 13 asks
  pub record Apart : Type 0 where
    pub from_entity : a ≢ c
    pub from_field : b ≢ c
    pub cells_enough : g.count ≤ length cells
    pub entities_enough : e.count * h.count ≤ length e.cells

  module _ (apart : Apart) (m : Made) (z : Passed) where
    same_entity : get_or pointed a 0 ≡ number
    unfolding addresses_effect
    same_entity = get_or-set_other cells c a _ 0 apart.from_entity

    same_field : get_or pointed b 0 ≡ named
    unfolding addresses_effect
    same_field = get_or-set_other cells c b _ 0 apart.from_field

    field_passes : All (field_access h t named)
    field_passes = subst (λ (f : ℕ). All (field_access h t f)) (its_field apart.cells_enough m) z.field_of

    -- what the store wrote: the value, at the place of the field
    store_wrote : Written e.cells stored.cells pointed s place (width_of t)
    unfolding stores_p_effect
    store_wrote =
        subst (λ (i : ℕ). Written e.cells (value_moved t pointed s e.cells (get_or pointed c 0 / 4)) pointed s i (width_of t)) (its_place apart.cells_enough m)
        (moved_written t pointed s e.cells (get_or pointed c 0 / 4))

    at_most : (i : ℕ) → i < width_of t → place + i < length e.cells
    at_most i less =
        let fits : named + width_of t ≤ h.count = width_inside t named h.count (fields_below h t named field_passes) in
        omega (arith, entity_cell e.count h.count number (named + i) m.there (omega (arith, fits, less)), apart.entities_enough)

    stored_value : (i : ℕ) → i < width_of t → get_or stored.cells (place + i) 0 ≡ get_or pointed (s + i) 0
    stored_value i less = store_wrote.taken i less (at_most i less)

    same_place : get_or pointed a 0 * h.count + get_or pointed b 0 ≡ place
    same_place = rw (same_entity, same_field)

    -- the value that is loaded is not negative where it must not be
    loads_natural : not (stored_natural t && negative (get_or stored.cells (get_or pointed a 0 * h.count + get_or pointed b 0) 0)) ≡ true
    loads_natural =
        let first : get_or stored.cells place 0 ≡ get_or pointed s 0 =
        (rw (add-zero place, add-zero s) at (stored_value 0 (some_width t)))
        in
        rw (same_place, first) (natural_again (must_be_natural t) (eqb t string) (negative (get_or pointed s 0)) z.natural_read z.natural_string)
      where
        some_width : (t : ℕ) → 0 < width_of t
        some_width t = go (eqb t vector)
          where
            go : (b : Bool) → 0 < cond b 3 1
            go true = omega arith
            go false = omega arith

    -- the load is refused only for its destination
    reload_accepted : All (access g t d) → All reloaded.conditions
    unfolding loads_effect read_access
    reload_accepted destination =
        let re : Conditions = access g entity a ++ ((not (must_be_natural entity && negative (get_or pointed a 0)) otherwise 17) ∷ []) in
        let rf : Conditions = access g field b ++ ((not (must_be_natural field && negative (get_or pointed b 0)) otherwise 17) ∷ []) in
        let there : Conditions = (ltb (get_or pointed a 0) e.count otherwise 30) ∷ [] in
        let fa : Conditions = field_access h t (get_or pointed b 0) in
        let is_there : ltb (get_or pointed a 0) e.count ≡ true = rw same_entity (lt-ltb number e.count m.there) in
        all_both (re ++ rf ++ access g t d ++ there ++ fa) _
        (all_both (re ++ rf ++ access g t d ++ there) fa
        (all_both (re ++ rf ++ access g t d) there
        (all_both (re ++ rf) (access g t d)
        (all_both re rf
        (subst (λ (v : ℕ). All (access g entity a ++ ((not (must_be_natural entity && negative v) otherwise 17) ∷ []))) (sym same_entity) m.reads_entity)
        (subst (λ (v : ℕ). All (access g field b ++ ((not (must_be_natural field && negative v) otherwise 17) ∷ []))) (sym same_field) m.reads_field))
        destination)
        (is_there, tt))
        (subst (λ (f : ℕ). All (field_access h t f)) (sym same_field) field_passes))
        (loads_natural, tt)

    -- and the cells from d on have the value
    reload_value : All (access g t d) → (i : ℕ) → i < width_of t → get_or reloaded.cells (d + i) 0 ≡ get_or pointed (s + i) 0
    unfolding loads_effect addresses_effect
    reload_value destination i less =
        let from = get_or pointed a 0 * h.count + get_or pointed b 0 in
        let moves : Written pointed reloaded.cells stored.cells from d (width_of t) = moved_written t stored.cells from pointed d in
        let fits : d + width_of t ≤ g.count = width_inside t d g.count (access_last g t d destination) in
        let room : d + i < length pointed = omega (arith, fits, less, apart.cells_enough, length-set cells c (place * 4)) in
        moves.taken i less room ∙ ap (λ (j : ℕ). get_or stored.cells (j + i) 0) same_place ∙ stored_value i less

  -- a pointer made by Address and stored through at once writes the field that a load of the same entity and field reads: the load is refused only for
  -- its destination, and gives back the value that was stored
  pub round_trip : Apart → All (addresses_effect g h e a b c cells).conditions → All (stores_p_effect t g h e s c u pointed).conditions → All (access g t d)
      → All reloaded.conditions × ((i : ℕ) → i < width_of t → get_or reloaded.cells (d + i) 0 ≡ get_or pointed (s + i) 0)
  round_trip apart pointing storing destination =
      let m = addressable g h e a b c cells pointing in
      let z = passed storing in
      (reload_accepted apart m z destination, reload_value apart m z destination)

  -- and where the value, the field and the destination pass, all three are accepted
  pub all_accepted : Apart → All (addresses_effect g h e a b c cells).conditions → u ≡ 0 → All (read_access g (must_be_natural t) t s pointed)
      → All (field_access h t (get_or cells b 0)) → not (eqb t string && negative (get_or pointed s 0)) ≡ true → All (access g t d)
      → All (stores_p_effect t g h e s c u pointed).conditions × All reloaded.conditions
  all_accepted apart pointing none value_passes field_passes natural destination =
      let storing = store_accepted apart.cells_enough pointing none value_passes field_passes natural in
      (storing, (round_trip apart pointing storing destination).0)

-- ---- the same of three statements that a machine completes one after the other

-- what a step shows, where the statement is provided that conditions hold
provided_steps : (P : Program) (cs : Conditions) (does : Does) (c c' : Config) → step_as P (provided cs does) c ≡ completed c'
    → All cs × (step_as P does c ≡ completed c')
unfolding step_as
provided_steps P cs does c c' = go (judge cs) refl
  where
    go : (n : ℕ) → judge cs ≡ n → step_as P (or_refused n does) c ≡ completed c' → All cs × (step_as P does c ≡ completed c')
    go zero e h = (judge_passed cs e, h)
    go (suc n) e h = absurd (let z : ◌≡◌ {A = ℕ} 0 1 = cc in omega arith)

module _ (file : List ℕ) (c c' : Config) (st : Statement) (is : at file c.state.pc ≡ st) (completes : step (program_of file) c ≡ completed c') where
  abbrev k : Tables
  k = tables_of (contents_of file)

  -- the statement is executed by its shape
  executed_step : (shape : Shape) → shape_of st.opcode ≡ shape
      → step_as (program_of file) (execute_as shape k c.state.pc st (cell_of st.arg1) (cell_of st.arg2) (cell_of st.arg3) (entities_of c) c.cells) c ≡ completed c'
  unfolding step program_with does_at execute
  executed_step shape e =
      let by : Shape → Statement → Does = λ s x. execute_as s k c.state.pc x (cell_of x.arg1) (cell_of x.arg2) (cell_of x.arg3) (entities_of c) c.cells in
      let fetched = (provided_steps (program_of file) (fetch_conditions (contents_of file).statements c.state.pc) _ c c' completes).1 in
      subst (λ (s : Shape). step_as (program_of file) (by s st) c ≡ completed c') e
      (subst (λ (x : Statement). step_as (program_of file) (by (shape_of x.opcode) x) c ≡ completed c') is fetched)

  effect_step : (x : Effect) → step_as (program_of file) (effect_does c.state.pc x) c ≡ completed c'
      → All x.conditions × (c' ≡ advanced c (c.state.pc +ℤ pos 1) x.cells c.entities)
  unfolding step_as
  effect_step x e =
      let parts = provided_steps (program_of file) x.conditions _ c c' e in
      let f = parts.1 in
      (parts.0, cc)

  put_step : (x : Effect) → step_as (program_of file) (put_does c.state.pc x) c ≡ completed c'
      → All x.conditions × (c' ≡ advanced c (c.state.pc +ℤ pos 1) c.cells x.cells)
  unfolding step_as
  put_step x e =
      let parts = provided_steps (program_of file) x.conditions _ c c' e in
      let f = parts.1 in
      (parts.0, cc)

-- ---- an Address that a machine completes

module _ (file : List ℕ) (c : Config) (thirty : (at file c.state.pc).opcode ≡ 30) where
  abbrev st : Statement
  st = at file c.state.pc

  abbrev tables : Tables
  tables = tables_of (contents_of file)

  abbrev made : Effect
  made = addresses_effect tables.globals tables.fields (entities_of c) (cell_of st.arg1) (cell_of st.arg2) (cell_of st.arg3) c.cells

  is_address : shape_of st.opcode ≡ addresses
  unfolding shape_of opcodes
  is_address = rw thirty

  -- what its operands must be
  abbrev pub AddressPasses : Type 0
  AddressPasses = Addressable tables.globals tables.fields (entities_of c) (cell_of st.arg1) (cell_of st.arg2) (cell_of st.arg3) c.cells

  -- the configuration after it: the pointer is in its third operand's cell, and the position is the next
  abbrev pub after_address : Config
  after_address =
      let number = get_or c.cells (cell_of st.arg1) 0 in
      let named = get_or c.cells (cell_of st.arg2) 0 in
      advanced c (c.state.pc +ℤ pos 1) (set c.cells (cell_of st.arg3) ((number * tables.fields.count + named) * 4)) c.entities

  -- it completes where they are so
  pub address_completes : All ((program_of file).fetching c.state.pc) → AddressPasses → step (program_of file) c ≡ completed after_address
  unfolding step step_as program_with does_at execute addresses_effect
  address_completes fetched passes =
      rw (judge_all (fetch_conditions (contents_of file).statements c.state.pc) fetched, is_address, judge_all made.conditions (addressable_all _ _ _ _ _ _ _ passes))

  -- and only there
  pub address_only : (c' : Config) → step (program_of file) c ≡ completed c' → AddressPasses × (c' ≡ after_address)
  unfolding addresses_effect
  address_only c' completes =
      let done = effect_step file c c' st refl completes made (executed_step file c c' st refl completes addresses is_address) in
      (addressable _ _ _ _ _ _ _ done.0, done.1)

-- what a load was accepted for: its destination
load_destination : (t : ℕ) (g h : Typing) (e : Entities) (a b d : ℕ) (cells : List ℕ) → All (loads_effect t g h e a b d cells).conditions → All (access g t d)
unfolding loads_effect
load_destination t g h e a b d cells q =
    let read = read_access g (must_be_natural entity) entity a cells ++ read_access g (must_be_natural field) field b cells in
    let there = (ltb (get_or cells a 0) e.count otherwise 30) ∷ [] in
    let fa = field_access h t (get_or cells b 0) in
    all_back read (access g t d) (all_front (read ++ access g t d) there (all_front (read ++ access g t d ++ there) fa (all_front (read ++ access g t d ++ there ++ fa) _ q)))

abbrev op : ℕ → ℕ → ℕ → ℕ → Statement
op opcode a b c = record { opcode = opcode; arg1 = a; arg2 = b; arg3 = c }

-- three statements one after the other: an Address, a store of a value of type t through what it made, a load of type t of the same entity and field
pub record RoundTrip (file : List ℕ) (t : ℕ) (o : Operands) (x x₁ x₂ x₃ : Config) : Type 0 where
  pub first : ℕ
  pub second : ℕ
  pub third : ℕ
  pub makes : shape_of first ≡ addresses
  pub stores_it : shape_of second ≡ stores_p t
  pub loads_it : shape_of third ≡ loads t
  pub at_first : at file x.state.pc ≡ op first o.of_entity o.of_field o.of_pointer
  pub at_second : at file (x.state.pc +ℤ pos 1) ≡ op second o.of_value o.of_pointer o.of_none
  pub at_third : at file (x.state.pc +ℤ pos 1 +ℤ pos 1) ≡ op third o.of_entity o.of_field o.of_destination
  pub step_first : step (program_of file) x ≡ completed x₁
  pub step_second : step (program_of file) x₁ ≡ completed x₂
  pub step_third : step (program_of file) x₂ ≡ completed x₃
  pub apart : Apart t (typing_of (contents_of file)) (fields_of (contents_of file)) (entities_of x) (cells_of o) x.cells

-- the load gives back the value that was stored
pub machine_round_trip : (file : List ℕ) (t : ℕ) (o : Operands) (x x₁ x₂ x₃ : Config) → RoundTrip file t o x x₁ x₂ x₃
    → (i : ℕ) → i < width_of t → get_or x₃.cells (cell_of o.of_destination + i) 0 ≡ get_or x₂.cells (cell_of o.of_value + i) 0
machine_round_trip file t o x x₁ x₂ x₃ r i less =
    let g = typing_of (contents_of file) in
    let h = fields_of (contents_of file) in
    let e = entities_of x in
    let p = x.state.pc in
    let q = cells_of o in
    let A = addresses_effect g h e q.of_entity q.of_field q.of_pointer x.cells in
    let one = effect_step file x x₁ _ r.at_first r.step_first A (executed_step file x x₁ _ r.at_first r.step_first addresses r.makes) in
    let y₁ : Config = advanced x (p +ℤ pos 1) A.cells x.entities in
    let S = stores_p_effect t g h e q.of_value q.of_pointer q.of_none A.cells in
    let step₂ : step (program_of file) y₁ ≡ completed x₂ = subst (λ (y : Config). step (program_of file) y ≡ completed x₂) one.1 r.step_second in
    let two = put_step file y₁ x₂ _ r.at_second step₂ S (executed_step file y₁ x₂ _ r.at_second step₂ (stores_p t) r.stores_it) in
    let y₂ : Config = advanced y₁ (p +ℤ pos 1 +ℤ pos 1) A.cells S.cells in
    let L = loads_effect t g h (entities_of y₂) q.of_entity q.of_field q.of_destination A.cells in
    let step₃ : step (program_of file) y₂ ≡ completed x₃ = subst (λ (y : Config). step (program_of file) y ≡ completed x₃) two.1 r.step_third in
    let three = effect_step file y₂ x₃ _ r.at_third step₃ L (executed_step file y₂ x₃ _ r.at_third step₃ (loads t) r.loads_it) in
    let destination = load_destination t g h (entities_of y₂) q.of_entity q.of_field q.of_destination A.cells three.0 in
    ap (λ (y : Config). get_or y.cells (q.of_destination + i) 0) three.1
    ∙ (round_trip t g h e q x.cells r.apart one.0 two.0 destination).1 i less
    ∙ sym (ap (λ (y : Config). get_or y.cells (q.of_value + i) 0) two.1)
