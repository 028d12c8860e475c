-- EVERY STATEMENT, once with the file's count of cells and once with more (document 02, R-7): those of entities (R-3), Calls, and all shapes together.
use Rattle.std.specs.Prelude.{ℕ, ◌+◌, ◌*◌, ◌/◌, ◌%◌, ◌≤◌, List, [], ◌∷◌, ◌++◌, Bool, true, false, not, ◌&&◌, cond, length, replicate, ltb, eqb, leb, ℤ}
use Rattle.std.proofs.Math.Path.{refl}
use Rattle.std.proofs.Common.{ap, ap₂, arith, length-append}
use Rattle.std.proofs.Math.Option.{Option, none, some}
use Rattle.std.proofs.Math.ListN.{get_or}
use Rattle.definition.specs.declared.Statement.{Statement}
use Rattle.definition.specs.declared.FunctionDef.{FunctionDef}
use Rattle.definition.specs.Checks.{◌otherwise◌}
use Rattle.definition.specs.File.{greatest_pointer, negative, Contents, no_function, is_builtin, builtin_of}
use Rattle.definition.specs.Floats.{rounding_of}
use Rattle.definition.specs.Cells.{string, float, entity, field, function, pointer, cell_of, signed, Typing, access, must_be_natural, field_access}
use Rattle.definition.specs.Statements.{Entities, Does, calls, effect_does, put_does}
use Rattle.definition.specs.Statements.{Shape, floats, values, vectors, vectors_to_float, strings, negates, negates_v, negates_s, stores, stores_v, loads, addresses, stores_p, branches, jumps, call, return, host, shape_of}
use Rattle.definition.specs.Statements.{unused, stored_natural, loads_effect, addresses_effect, points_at_field, stores_p_effect, rounding_effect, builtin_does, call_of, call_does}
use Rattle.definition.specs.Statements.{statement_at, fetch_conditions, Tables, tables_of, execute_as, execute, does_at}
use Rattle.definition.specs.Written.{padded}
use Rattle.padding_laws.specs.Cells.{Agree, agree_set}
use Rattle.padding_laws.specs.Conditions.{◌then◌, ◌and◌, unchanged, equal, widened, first_below}
use Rattle.padding_laws.specs.Effects.{Carries, operand, value, at, provided_carried, effect_carried, put_carried, agree_value, same_value}
use Rattle.padding_laws.specs.Effects.{floats_carried, values_carried, vectors_carried, vectors_to_float_carried, strings_carried, negates_carried, negates_v_carried, negates_s_carried, stores_carried, stores_v_carried, branches_carried}

module _ (g : Typing) (more : ℕ) (wider : g.count ≤ more) {cells cells' : List ℕ} (same : Agree g.count cells' cells cells') (p : ℤ) where
  abbrev wide : Typing
  wide = widened g more

  abbrev Kept : Does → Does → Type 0
  Kept x y = Carries g.count cells' x y

  -- ---- the fields of entities (R-3)

  module _ (h : Typing) (e : Entities) (a b c : ℕ) where
    loads_carried : (t : ℕ) → Kept (effect_does p (loads_effect t g h e a b c cells)) (effect_does p (loads_effect t wide h e a b c cells'))
    unfolding loads_effect
    loads_carried t =
        let operands =
        value g more wider same (must_be_natural entity) entity a
        and value g more wider same (must_be_natural field) field b
        and operand g more wider same t c
        in
        let there = operands then λ q. equal (ap (λ (number : ℕ). (ltb number e.count otherwise 30) ∷ []) (at g more wider same a q.0.0)) in
        let fields = there then λ q. equal (ap (λ (named : ℕ). field_access h t named) (at g more wider same b q.0.0.1)) in
        let last = fields then λ q.
        equal
        (ap₂ (λ (number named : ℕ). (not (stored_natural t && negative (get_or e.cells (number * h.count + named) 0)) otherwise 17) ∷ [])
        (at g more wider same a q.0.0.0.0) (at g more wider same b q.0.0.0.1)) in
        effect_carried g more wider same p (loads_effect t g h e a b c cells) (loads_effect t wide h e a b c cells') last
        λ q.
        rw (at g more wider same a q.0.0.0.0.0, at g more wider same b q.0.0.0.0.1)
        (agree_value same t e.cells (get_or cells a 0 * h.count + get_or cells b 0) c q.0.0.0.1)

    addresses_carried : Kept (effect_does p (addresses_effect g h e a b c cells)) (effect_does p (addresses_effect wide h e a b c cells'))
    unfolding addresses_effect
    addresses_carried =
        let operands =
        value g more wider same (must_be_natural entity) entity a
        and value g more wider same (must_be_natural field) field b
        and operand g more wider same pointer c
        in
        let all = operands then λ q.
        equal
        (ap₂
        (λ (number named : ℕ).
        (ltb number e.count otherwise 30) ∷ (ltb named h.count otherwise 31) ∷ (leb ((number * h.count + named) * 4) greatest_pointer otherwise 32) ∷ [])
        (at g more wider same a q.0.0) (at g more wider same b q.0.1)) in
        effect_carried g more wider same p (addresses_effect g h e a b c cells) (addresses_effect wide h e a b c cells') all
        λ q.
        agree_set same c q.0.1
        (ap₂ (λ (number named : ℕ). (number * h.count + named) * 4) (at g more wider same a q.0.0.0) (at g more wider same b q.0.0.1))

    stores_p_carried : (t : ℕ) → Kept (put_does p (stores_p_effect t g h e a b c cells)) (put_does p (stores_p_effect t wide h e a b c cells'))
    unfolding stores_p_effect
    stores_p_carried t =
        let operands = unchanged (unused c) and value g more wider same (must_be_natural t) t a and operand g more wider same pointer b in
        let points = operands then λ q. equal (ap (λ (v : ℕ). (points_at_field h e v otherwise 32) ∷ []) (at g more wider same b q.1)) in
        let fields = points then λ q. equal (ap (λ (v : ℕ). field_access h t (v / 4 % h.count)) (at g more wider same b q.0.1)) in
        let last = fields then λ q.
        equal (ap (λ (v : ℕ). (not (eqb t string && negative v) otherwise 17) ∷ []) (at g more wider same a (first_below t a q.0.0.0.1))) in
        put_carried g more wider same p (stores_p_effect t g h e a b c cells) (stores_p_effect t wide h e a b c cells') last
        λ q. rw (at g more wider same b q.0.0.0.1) (same_value same t a e.cells (get_or cells b 0 / 4) q.0.0.0.0.1)

  -- ---- Calls

  -- R-1's four builtins are done here
  builtin_carried : (rounding : Option (ℕ → ℕ)) (n : ℕ) → Kept (builtin_does rounding n g p cells) (builtin_does rounding n wide p cells')
  unfolding rounding_effect
  builtin_carried (some f) n =
      effect_carried g more wider same p (rounding_effect f g cells) (rounding_effect f wide cells')
      (operand g more wider same float 4 and operand g more wider same float 1)
      λ q. agree_set same 1 q.1 (ap f (at g more wider same 4 q.0))
  builtin_carried none n = refl

  call_of_carried : (functions : List FunctionDef) (f : ℕ) → Kept (call_of functions g p f cells) (call_of functions wide p f cells')
  unfolding call_of
  call_of_carried functions f = provided_carried g more wider same _ _ _ _ (unchanged _) λ q. go (is_builtin d)
    where
      d : FunctionDef
      d = get_or functions f no_function

      go : (b : Bool)
          → Kept (cond b (builtin_does (rounding_of (builtin_of d)) (builtin_of d) g p cells) (calls f))
          (cond b (builtin_does (rounding_of (builtin_of d)) (builtin_of d) wide p cells') (calls f))
      go true = builtin_carried (rounding_of (builtin_of d)) (builtin_of d)
      go false = refl

  call_carried : (functions : List FunctionDef) (a : ℕ) → Kept (call_does functions g p a cells) (call_does functions wide p a cells')
  unfolding call_does
  call_carried functions a =
      provided_carried g more wider same (access g function a) (access wide function a) _ _ (operand g more wider same function a)
      λ q. rw (at g more wider same a q) (call_of_carried functions (get_or cells a 0))

-- ---- all shapes

-- the same tables over more cells
abbrev widened_tables : Tables → ℕ → Tables
widened_tables k more = record { functions = k.functions; globals = widened k.globals more; fields = k.fields; strings = k.strings }

module _ (k : Tables) (more : ℕ) (wider : k.globals.count ≤ more) {cells cells' : List ℕ} (same : Agree k.globals.count cells' cells cells')
    (p : ℤ) (st : Statement) (a b c : ℕ) (e : Entities) where
  executed : (s : Shape) → Carries k.globals.count cells' (execute_as s k p st a b c e cells) (execute_as s (widened_tables k more) p st a b c e cells')
  executed (floats f) = floats_carried k.globals more wider same p a b c f
  executed (values t f) = values_carried k.globals more wider same p a b c t f
  executed (vectors ta tb f) = vectors_carried k.globals more wider same p a b c ta tb f
  executed (vectors_to_float f) = vectors_to_float_carried k.globals more wider same p a b c f
  executed (strings when) = strings_carried k.globals more wider same p a b c when k.strings
  executed (negates t f) = negates_carried k.globals more wider same p a b c t f
  executed negates_v = negates_v_carried k.globals more wider same p a b c
  executed negates_s = negates_s_carried k.globals more wider same p a b c k.strings
  executed (stores t) = stores_carried k.globals more wider same p a b c t
  executed stores_v = stores_v_carried k.globals more wider same p a b c
  executed (loads t) = loads_carried k.globals more wider same p k.fields e a b c t
  executed addresses = addresses_carried k.globals more wider same p k.fields e a b c
  executed (stores_p t) = stores_p_carried k.globals more wider same p k.fields e a b c t
  executed (branches when) = branches_carried k.globals more wider same p a b c when (signed st.arg2)
  executed jumps = record { cells' = cells'; does = refl; agree = same }
  executed call = call_carried k.globals more wider same p k.functions a
  executed return = refl
  executed host = refl

-- the statement at a position, of a file's contents and of these with n cells added
pub does_carried : (k : Contents) (n : ℕ) (p : ℤ) (e : Entities) {cells cells' : List ℕ} → Agree (length k.globals) cells' cells cells'
    → Carries (length k.globals) cells' (does_at k p e cells) (does_at (padded n k) p e cells')
unfolding does_at execute
does_carried k n p e {cells} {cells'} same =
    let st = statement_at k.statements p in
    let wider : length k.globals ≤ length (k.globals ++ replicate n 0) = omega (arith, length-append k.globals (replicate n 0)) in
    provided_carried (tables_of k).globals (length (k.globals ++ replicate n 0)) wider same (fetch_conditions k.statements p) (fetch_conditions k.statements p) _ _
    (unchanged (fetch_conditions k.statements p))
    λ q.
    executed (tables_of k) (length (k.globals ++ replicate n 0)) wider same p st (cell_of st.arg1) (cell_of st.arg2) (cell_of st.arg3) e (shape_of st.opcode)
