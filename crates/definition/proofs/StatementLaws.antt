-- What a statement does, by the file: a function is entered exactly at a Call opcode of one that is no builtin, left exactly at Return or Done, and any
-- other statement that completes changes only cells below the file's count, or entity cells below their number times the cells per entity. The table of opcodes is gone through once, by a computed test.
use Prim.Native.Nat.{ℕ, zero, suc, ◌+◌, ◌*◌, ◌/◌, ◌%◌, ◌≤◌, ◌<◌}
use Rattle.std.specs.Prelude.{◌≡◌, List, [], ◌∷◌, ◌++◌, Bool, true, false, not, ◌&&◌, ◌||◌, cond, ℤ, pos, ◌+ℤ◌, length, get_or, set, ltb, eqb}
use Rattle.std.proofs.Math.Path.{refl}
use Rattle.std.proofs.Common.{sym, ◌∙◌, subst, arith, add-zero, zero-add, add-suc, suc-add, le_of_suc-le-suc, not-suc-le-zero, mul-le-mul_right, suc-mul, div-add-mod', ltb-true, length-set, drop-set-lt}
use Rattle.std.specs.Bool.{beq}
use Rattle.std.proofs.Math.Option.{Option, none, some}
use Rattle.definition.specs.declared.Statement.{Statement}
use Rattle.definition.specs.declared.FunctionDef.{FunctionDef}
use Rattle.definition.specs.Checks.{Conditions, ◌otherwise◌, judge}
use Rattle.definition.specs.File.{opcode_count, contents_of, no_function, negative, between, is_builtin, builtin_of}
use Rattle.definition.specs.Floats.{rounding_of}
use Rattle.definition.specs.Cells.{float, vector, entity, field, pointer, cell_of, Typing, cell_access, vector_access, access, must_be_natural, read_access, field_cell_access, field_access}
use Rattle.definition.specs.Statements.{Entities, Does, calls, or_refused, provided}
use Rattle.definition.specs.Strings.{text_access}
use Rattle.definition.specs.Statements.{Shape, floats, values, vectors, vectors_to_float, strings, negates, negates_v, negates_s, stores, stores_v, loads, addresses, stores_p, branches, jumps, call, return, host, opcodes, shape_of}
use Rattle.definition.specs.Statements.{floats_effect, values_effect, vector_result, vectors_effect, vectors_to_float_effect, operand_given, string_access, strings_effect, unused, negates_effect, negates_v_effect, negates_s_effect}
use Rattle.definition.specs.Statements.{stored_natural, stores_effect, reserved_cell, move_access, stores_v_effect, branches_do, rounding_effect, builtin_does, call_of, call_does, statement_at, fetch_conditions, Tables, tables_of, execute_as, execute, does_at}
use Rattle.definition.specs.Statements.{value_moved, loads_effect, addresses_effect, points_at_field, stores_p_effect}
use Rattle.definition.specs.Load.{program_with, program_of}
use Rattle.definition.specs.Log.{Kind, entry, leaving, other, statement_kind}
use Rattle.definition.specs.CheckLaws.{All}
use Rattle.definition.proofs.CheckLaws.{judge_passed, all_front, all_back, and_left, and_right}
use Rattle.definition.specs.StatementLaws.{every, Keeps, last_of, Before, HasKind, before_in}

-- ---- the table of opcodes

-- whether a shape is a Call's, and whether it is that of Return and Done
abbrev transfers : Shape → Bool × Bool
transfers (floats f) = (false, false)
transfers (values t f) = (false, false)
transfers (vectors ta tb f) = (false, false)
transfers (vectors_to_float f) = (false, false)
transfers (strings when) = (false, false)
transfers (negates t f) = (false, false)
transfers negates_v = (false, false)
transfers negates_s = (false, false)
transfers (stores t) = (false, false)
transfers stores_v = (false, false)
transfers (loads t) = (false, false)
transfers addresses = (false, false)
transfers (stores_p t) = (false, false)
transfers (branches when) = (false, false)
transfers jumps = (false, false)
transfers call = (true, false)
transfers return = (false, true)
transfers host = (false, false)

abbrev is_call : Shape → Bool
is_call s = (transfers s).0

abbrev is_return : Shape → Bool
is_return s = (transfers s).1

abbrev call_opcode : ℕ → Bool
call_opcode op = between 51 59 op

abbrev return_opcode : ℕ → Bool
return_opcode op = eqb op 0 || eqb op 43

pub every_at : {A : Type 0} (f : ℕ → A → Bool) (d : A) (xs : List A) (i : ℕ) → every f i xs ≡ true → (k : ℕ) → k < length xs → f (i + k) (get_or xs k d) ≡ true
every_at f d [] i e k h = absurd (not-suc-le-zero h)
every_at f d (x ∷ xs) i e zero h = subst (λ (m : ℕ). f m x ≡ true) (sym (add-zero i)) (and_left (f i x) (every f (suc i) xs) e)
every_at f d (x ∷ xs) i e (suc k) h =
    subst (λ (m : ℕ). f m (get_or xs k d) ≡ true) (suc-add i k ∙ sym (add-suc i k))
    (every_at f d xs (suc i) (and_right (f i x) (every f (suc i) xs) e) k (le_of_suc-le-suc h))

as_opcode : ℕ → Shape → Bool
as_opcode op s = beq (is_call s) (call_opcode op) && beq (is_return s) (return_opcode op)

table : every as_opcode 0 opcodes ≡ true
unfolding opcodes as_opcode
table = refl

same : (a b : Bool) → beq a b ≡ true → a ≡ b
same true true e = refl
same true false e = sym e
same false true e = e
same false false e = refl

record Named (op : ℕ) (s : Shape) : Type 0 where
  as_call : is_call s ≡ call_opcode op
  as_return : is_return s ≡ return_opcode op

named : (op : ℕ) → op < opcode_count → Named op (shape_of op)
unfolding shape_of opcodes as_opcode
named op h =
    let e : as_opcode (0 + op) (shape_of op) ≡ true = every_at as_opcode host opcodes 0 table op h in
    let e' : as_opcode op (shape_of op) ≡ true = rw zero-add at e in
    record {
      as_call = same _ _ (and_left (beq (is_call (shape_of op)) (call_opcode op)) (beq (is_return (shape_of op)) (return_opcode op)) e');
      as_return = same _ _ (and_right (beq (is_call (shape_of op)) (call_opcode op)) (beq (is_return (shape_of op)) (return_opcode op)) e');
    }

-- ---- only cells below a count are changed

pub keeps_all : (count : ℕ) (cells : List ℕ) → Keeps count cells cells
keeps_all count cells = record { same_length = refl; same_above = refl }

pub keeps_set : (count : ℕ) (cells cells' : List ℕ) (i v : ℕ) → i < count → Keeps count cells cells' → Keeps count cells (set cells' i v)
keeps_set count cells cells' i v h k =
    record { same_length = length-set cells' i v ∙ k.same_length; same_above = drop-set-lt count cells' i v h ∙ k.same_above }

pub keeps_one : (count : ℕ) (cells : List ℕ) (i v : ℕ) → i < count → Keeps count cells (set cells i v)
keeps_one count cells i v h = keeps_set count cells cells i v h (keeps_all count cells)

-- ---- what an access shows

cell_below : (g : Typing) (t cell : ℕ) → All (cell_access g t cell) → cell < g.count
unfolding cell_access
cell_below g t cell h = ltb-true cell g.count h.1.0

vector_first : (g : Typing) (cell : ℕ) → All (vector_access g cell) → cell < g.count
unfolding vector_access cell_access
vector_first g cell h = ltb-true cell g.count h.1.1.0

vector_last : (g : Typing) (cell : ℕ) → All (access g vector cell) → cell + 2 < g.count
unfolding access vector_access cell_access
vector_last g cell h = ltb-true (cell + 2) g.count h.1.1.1.1.1.1.0

access_below : (g : Typing) (t cell : ℕ) → All (access g t cell) → cell < g.count
unfolding access
access_below g t cell h = go (eqb t vector) h
  where
    go : (b : Bool) → All (cond b (vector_access g cell) (cell_access g t cell)) → cell < g.count
    go true h = vector_first g cell h
    go false h = cell_below g t cell h

move_below : (g : Typing) (raw : Bool) (a b : ℕ) → All (move_access g raw a b) → b < g.count
unfolding cell_access
move_below g true a b h = ltb-true b g.count h.1.0
move_below g false a b h = ltb-true b g.count h.1.1.1.0

-- ---- what an access of a field shows

field_below : (h : Typing) (t field : ℕ) → All (field_cell_access h t field) → field < h.count
unfolding field_cell_access
field_below h t field k = ltb-true field h.count k.1.0

pub fields_below : (h : Typing) (t field : ℕ) → All (field_access h t field) → last_of t field < h.count
unfolding field_access
fields_below h t field k = go (eqb t vector) k
  where
    go : (b : Bool)
        → All (cond b (field_cell_access h float field ++ field_cell_access h float (field + 1) ++ field_cell_access h float (field + 2)) (field_cell_access h t field))
        → cond b (field + 2) field < h.count
    go true k =
        field_below h float (field + 2)
        (all_back (field_cell_access h float field ++ field_cell_access h float (field + 1)) (field_cell_access h float (field + 2)) k)
    go false k = field_below h t field k

pub access_last : (g : Typing) (t cell : ℕ) → All (access g t cell) → last_of t cell < g.count
unfolding access vector_access cell_access
access_last g t cell k = go (eqb t vector) k
  where
    go : (b : Bool) → All (cond b (vector_access g cell) (cell_access g t cell)) → cond b (cell + 2) cell < g.count
    go true h = ltb-true (cell + 2) g.count h.1.1.1.1.1.1.0
    go false h = cell_below g t cell h

-- a value that is moved to where it ends below a count
keeps_moved : (count t : ℕ) (from : List ℕ) (i : ℕ) (to : List ℕ) (j : ℕ) → last_of t j < count → Keeps count to (value_moved t from i to j)
unfolding value_moved
keeps_moved count t from i to j h = go (eqb t vector) h
  where
    first : List ℕ
    first = set to j (get_or from i 0)

    go : (b : Bool) → cond b (j + 2) j < count
        → Keeps count to (cond b (set (set (set to j (get_or from i 0)) (j + 1) (get_or from (i + 1) 0)) (j + 2) (get_or from (i + 2) 0)) (set to j (get_or from i 0)))
    go true h = keeps_set count to _ (j + 2) _ h (keeps_set count to _ (j + 1) _ (omega arith) (keeps_one count to j _ (omega arith)))
    go false h = keeps_one count to j _ h

-- a field of an entity that is there is a cell of that entity, and of no other
pub entity_cell : (number size n field : ℕ) → n < number → field < size → n * size + field < number * size
entity_cell number size n field h k =
    let m : suc n * size ≤ number * size = mul-le-mul_right size h in
    omega (arith, m, suc-mul n size)

-- a pointer's entity and field
pub pointer_cell : (at size : ℕ) → at / size * size + at % size ≡ at
pointer_cell at size = div-add-mod' at size

-- the last cell of a value behind a pointer
pointed_last : (number size t at : ℕ) → at / size < number → last_of t (at % size) < size → last_of t at < number * size
pointed_last number size t at owner last = go (eqb t vector) last
  where
    go : (b : Bool) → cond b (at % size + 2) (at % size) < size → cond b (at + 2) at < number * size
    go true h =
        omega (arith, entity_cell number size (at / size) (at % size + 2) owner h, pointer_cell at size)
    go false h =
        omega (arith, entity_cell number size (at / size) (at % size) owner h, pointer_cell at size)

-- ---- the kind of a statement

provided_has_kind : (x : Before) (κ : Kind) (cs : Conditions) (d : Does) → (All cs → HasKind x κ d) → HasKind x κ (provided cs d)
provided_has_kind x κ cs d is = go (judge cs) refl
  where
    go : (n : ℕ) → judge cs ≡ n → HasKind x κ (or_refused n d)
    go zero e = is (judge_passed cs e)
    go (suc n) e = tt

-- what the log makes of a call of the function in a cell
record Called (functions : List FunctionDef) (p : ℤ) (f : ℕ) (κ : Kind) : Type 0 where
  enters : is_builtin (get_or functions f no_function) ≡ false → κ ≡ entry f (p +ℤ pos 1)
  enters_none : is_builtin (get_or functions f no_function) ≡ true → κ ≡ other

module _ (g : Typing) (room : ℕ) (p : ℤ) (cells entities : List ℕ) (κ : Kind) where
  abbrev x : Before
  x = record { count = g.count; room = room; position = p; cells = cells; entities = entities }

  builtin_has_kind : (rounding : Option (ℕ → ℕ)) (n : ℕ) → κ ≡ other → HasKind x κ (builtin_does rounding n g p cells)
  unfolding rounding_effect
  builtin_has_kind (some f) n e = provided_has_kind x κ _ _ λ h. (
    e,
    keeps_one g.count cells 1 _ (access_below g float 1 (all_back (access g float 4) _ h)),
  )
  builtin_has_kind none n e = tt

  call_has_kind : (functions : List FunctionDef) (f : ℕ) → Called functions p f κ → HasKind x κ (call_of functions g p f cells)
  unfolding call_of
  call_has_kind functions f called = provided_has_kind x κ _ _ λ h. go (is_builtin (get_or functions f no_function)) refl
    where
      n : ℕ
      n = builtin_of (get_or functions f no_function)

      go : (b : Bool) → is_builtin (get_or functions f no_function) ≡ b
          → HasKind x κ (cond b (builtin_does (rounding_of n) n g p cells) (calls f))
      go true e = builtin_has_kind (rounding_of n) n (called.enters_none e)
      go false e = called.enters e

-- a field that is read goes to cells below the count
load_keeps : (k : Tables) (e : Entities) (cells : List ℕ) (a b c t : ℕ) → All (loads_effect t k.globals k.fields e a b c cells).conditions
    → Keeps k.globals.count cells (loads_effect t k.globals k.fields e a b c cells).cells
unfolding loads_effect
load_keeps k e cells a b c t q =
    let g = k.globals in
    let h = k.fields in
    let read = read_access g (must_be_natural entity) entity a cells ++ read_access g (must_be_natural field) field b cells in
    let there = (ltb (get_or cells a 0) e.count otherwise 30) ∷ [] in
    let front = all_front (read ++ access g t c ++ there ++ field_access h t (get_or cells b 0)) _ q in
    let operands = all_front (read ++ access g t c) there (all_front (read ++ access g t c ++ there) (field_access h t (get_or cells b 0)) front) in
    keeps_moved g.count t e.cells _ cells c (access_last g t c (all_back read (access g t c) operands))

-- a value written through a pointer goes to a cell of an entity that is there
put_keeps : (k : Tables) (e : Entities) (cells : List ℕ) (a b c t : ℕ) → All (stores_p_effect t k.globals k.fields e a b c cells).conditions
    → Keeps (e.count * k.fields.count) e.cells (stores_p_effect t k.globals k.fields e a b c cells).cells
unfolding stores_p_effect
put_keeps k e cells a b c t q =
    let g = k.globals in
    let h = k.fields in
    let p = get_or cells b 0 in
    let named = p / 4 % h.count in
    let read = unused c ++ read_access g (must_be_natural t) t a cells ++ access g pointer b in
    let there = (points_at_field h e p otherwise 32) ∷ [] in
    let front = all_front (read ++ there ++ field_access h t named) _ q in
    let points = (all_back read there (all_front (read ++ there) (field_access h t named) front)).0 in
    let last : last_of t named < h.count = fields_below h t named (all_back (read ++ there) (field_access h t named) front) in
    let owner : p / 4 / h.count < e.count = ltb-true _ _ (and_right (not (negative p) && eqb (p % 4) 0) (ltb (p / 4 / h.count) e.count) points) in
    keeps_moved (e.count * h.count) t cells a e.cells (p / 4) (pointed_last e.count h.count t (p / 4) owner last)

module _ (k : Tables) (p : ℤ) (st : Statement) (e : Entities) (cells : List ℕ) (κ : Kind) (a b c : ℕ) where
  abbrev count : ℕ
  count = k.globals.count

  abbrev before : Before
  before = record { count = count; room = e.count * k.fields.count; position = p; cells = cells; entities = e.cells }

  -- what each shape must be for the log
  record Expected (s : Shape) : Type 0 where
    as_other : is_call s ≡ false → is_return s ≡ false → κ ≡ other
    as_leaving : is_call s ≡ false → is_return s ≡ true → κ ≡ leaving
    as_call : is_call s ≡ true → is_return s ≡ false → Called k.functions p (get_or cells a 0) κ

  executed : (s : Shape) → Expected s → HasKind before κ (execute_as s k p st a b c e cells)
  unfolding floats_effect values_effect vectors_effect vector_result vectors_to_float_effect strings_effect negates_effect negates_v_effect negates_s_effect stores_effect stores_v_effect branches_do call_does loads_effect addresses_effect
  executed (floats f) x = provided_has_kind before κ _ _ λ h. (
    x.as_other refl refl,
    keeps_one count cells c _ (access_below k.globals float c (all_back (access k.globals float a ++ access k.globals float b) _ h)),
  )
  executed (values t f) x = provided_has_kind before κ _ _ λ h. (
    x.as_other refl refl,
    keeps_one count cells c _ (access_below k.globals float c (all_back (read_access k.globals (must_be_natural t) t a cells ++ read_access k.globals (must_be_natural t) t b cells) _ h)),
  )
  executed (vectors ta tb f) x = provided_has_kind before κ _ _ λ h.
      let below : c + 2 < count = vector_last k.globals c (all_back (access k.globals ta a ++ access k.globals tb b) _ h) in (
        x.as_other refl refl,
        keeps_set count cells _ (c + 2) _ below (keeps_set count cells _ (c + 1) _ (omega arith) (keeps_one count cells c _ (omega arith))),
      )
  executed (vectors_to_float f) x = provided_has_kind before κ _ _ λ h. (
    x.as_other refl refl,
    keeps_one count cells c _ (access_below k.globals float c (all_back (access k.globals vector a ++ access k.globals vector b) _ h)),
  )
  executed (strings when) x = provided_has_kind before κ _ _ λ h. (
    x.as_other refl refl,
    keeps_one count cells c _ (access_below k.globals float c (all_back (operand_given a ++ operand_given b ++ string_access k.globals k.strings a b cells) _ h)),
  )
  executed (negates t f) x = provided_has_kind before κ _ _ λ h. (
    x.as_other refl refl,
    keeps_one count cells c _ (access_below k.globals float c (all_back (unused b ++ read_access k.globals (must_be_natural t) t a cells) _ h)),
  )
  executed negates_v x = provided_has_kind before κ _ _ λ h. (
    x.as_other refl refl,
    keeps_one count cells c _ (access_below k.globals float c (all_back (unused b ++ access k.globals vector a) _ h)),
  )
  executed negates_s x = provided_has_kind before κ _ _ λ h. (
    x.as_other refl refl,
    keeps_one count cells c _ (access_below k.globals float c (all_back (unused b ++ operand_given a ++ text_access k.globals k.strings a cells) _ h)),
  )
  executed (stores t) x = provided_has_kind before κ _ _ λ h. (
    x.as_other refl refl,
    keeps_one count cells b _ (access_below k.globals t b (all_back (unused c ++ read_access k.globals (stored_natural t) t a cells) _ h)),
  )
  executed stores_v x = provided_has_kind before κ _ _ λ h.
      let raw = reserved_cell b in
      let third : b + 2 < count = move_below k.globals raw (a + 2) (b + 2)
      (all_back (unused c ++ move_access k.globals raw a b ++ move_access k.globals raw (a + 1) (b + 1)) (move_access k.globals raw (a + 2) (b + 2)) h)
      in (
        x.as_other refl refl,
        keeps_set count cells _ (b + 2) _ third (keeps_set count cells _ (b + 1) _ (omega arith) (keeps_one count cells b _ (omega arith))),
      )
  executed (loads t) x = provided_has_kind before κ _ _ λ q. (x.as_other refl refl, load_keeps k e cells a b c t q)
  executed addresses x = provided_has_kind before κ _ _ λ q.
      let g = k.globals in
      let read = read_access g (must_be_natural entity) entity a cells ++ read_access g (must_be_natural field) field b cells in
      (x.as_other refl refl, keeps_one count cells c _ (access_below g pointer c (all_back read (access g pointer c) (all_front (read ++ access g pointer c) _ q))))
  executed (stores_p t) x = provided_has_kind before κ _ _ λ q. (x.as_other refl refl, put_keeps k e cells a b c t q)
  executed (branches when) x = provided_has_kind before κ _ _ λ h. (x.as_other refl refl, keeps_all count cells)
  executed jumps x = (x.as_other refl refl, keeps_all count cells)
  executed call x = provided_has_kind before κ _ _ λ h. call_has_kind k.globals (e.count * k.fields.count) p cells e.cells κ k.functions (get_or cells a 0) (x.as_call refl refl)
  executed return x = x.as_leaving refl refl
  executed host x = tt

-- ---- the kind of the statement at a position

kind_of_law : (file : List ℕ) (p : ℤ) (e : Entities) (cells : List ℕ) → (s : Shape) → Named (statement_at (contents_of file).statements p).opcode s
    → Expected (tables_of (contents_of file)) p (statement_at (contents_of file).statements p) e cells (statement_kind file p cells)
    (cell_of (statement_at (contents_of file).statements p).arg1)
    (cell_of (statement_at (contents_of file).statements p).arg2)
    (cell_of (statement_at (contents_of file).statements p).arg3)
    s
unfolding statement_kind
kind_of_law file p e cells s n =
    record {
      as_other = λ c r. rw (sym n.as_call ∙ c, sym n.as_return ∙ r);
      as_leaving = λ c r. rw (sym n.as_call ∙ c, sym n.as_return ∙ r);
      as_call = λ c r. record {
        enters = λ b. rw (sym n.as_call ∙ c, b);
        enters_none = λ b. rw (sym n.as_call ∙ c, b, sym n.as_return ∙ r);
      };
    }

pub statement_has_kind : (file : List ℕ) (p : ℤ) (e : Entities) (cells : List ℕ)
    → HasKind (before_in file p e cells) (statement_kind file p cells) ((program_of file).does p e cells)
unfolding program_with does_at execute fetch_conditions
statement_has_kind file p e cells =
    provided_has_kind (before_in file p e cells) _ _ _ λ h.
    let st = statement_at (contents_of file).statements p in
    executed (tables_of (contents_of file)) p st e cells (statement_kind file p cells) (cell_of st.arg1) (cell_of st.arg2) (cell_of st.arg3) (shape_of st.opcode)
    (kind_of_law file p e cells (shape_of st.opcode) (named st.opcode (ltb-true _ _ h.1.0)))
