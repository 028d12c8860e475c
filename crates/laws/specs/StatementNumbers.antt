-- The numbers of a statement, whatever its operands and the tables of the file are: it keeps the number of cells and of entity cells, and no refusal of it is
-- 26, which document 02's R-14 withdraws: "26 isn't used again for anything".
use Prim.Native.Nat.{ℕ, zero, suc, ◌+◌, ◌-◌, ◌/◌, ◌%◌}
use Rattle.std.specs.Prelude.{◌≡◌, Bool, cond, ℤ, length, get_or, set, eqb}
use Rattle.std.proofs.Math.Path.{refl}
use Rattle.std.proofs.Common.{◌∙◌, subst, length-set}
use mathlib.Core.List.{List, [], ◌∷◌, ◌++◌}
use Rattle.std.proofs.Math.Bool.{true, false}
use Rattle.std.proofs.Math.Option.{Option, none, some}
use Rattle.definition.specs.declared.Statement.{Statement}
use Rattle.definition.specs.declared.FunctionDef.{FunctionDef}
use Rattle.definition.specs.Checks.{Conditions, ◌otherwise◌, judge}
use Rattle.definition.specs.File.{least_cells, Contents, contents_at, file_of, unpacked_statements, with_statements, no_function, is_builtin, builtin_of}
use Rattle.definition.specs.Machine.{with_unpacked}
use Rattle.definition.specs.Floats.{rounding_of}
use Rattle.definition.specs.Cells.{float, vector, string, entity, field, function, pointer, cell_of, Typing, cell_access, vector_access, access, must_be_natural, read_access, field_cell_access, field_access}
use Rattle.definition.specs.Strings.{text_access}
use Rattle.definition.specs.Statements.{Entities, Does, next, puts, calls, returns, refuses, hands_over, or_refused, provided}
use Rattle.definition.specs.Statements.{Shape, floats, values, vectors, vectors_to_float, strings, negates, negates_v, negates_s, stores, stores_v, loads, addresses, stores_p, branches, jumps, call, return, host, shape_of}
use Rattle.definition.specs.Statements.{floats_effect, values_effect, vector_result, vectors_effect, vectors_to_float_effect, string_access, strings_effect, negates_effect, negates_v_effect, negates_s_effect}
use Rattle.definition.specs.Statements.{stored_natural, stores_effect, reserved_cell, move_access, stores_v_effect, branches_do, rounding_effect, builtin_does, call_of, call_does, statement_at, fetch_conditions, Tables, tables_of, execute_as, execute, does_at}
use Rattle.definition.specs.Statements.{value_moved, loads_effect, addresses_effect, stores_p_effect}
use Rattle.definition.specs.Load.{program_with, program_of}
use Rattle.laws.specs.Thirteen.{recorded_only}
use Rattle.laws.specs.Passing.{SameNumbers, KeepsNumbers}

-- the number that R-14 withdraws
abbrev pub withdrawn : ℕ
withdrawn = 26

-- none of the conditions has it
unfoldable pub Without : Conditions → Type 0
Without [] = Unit {0}
Without (c ∷ cs) = (eqb (suc c.number_less_one) withdrawn ≡ false) × Without cs

pub without_both : (cs ds : Conditions) → Without cs → Without ds → Without (cs ++ ds)
unfolding Without
without_both [] ds h k = k
without_both (c ∷ cs) ds (h, hs) k = (h, without_both cs ds hs k)

without_three : (cs ds es : Conditions) → Without cs → Without ds → Without es → Without (cs ++ ds ++ es)
without_three cs ds es h k l = without_both (cs ++ ds) es (without_both cs ds h k) l

pub judge_without : (cs : Conditions) → Without cs → eqb (judge cs) withdrawn ≡ false
unfolding Without judge
judge_without [] h = refl
judge_without (c ∷ cs) (h, hs) = go c.holds (judge_without cs hs)
  where
    go : (b : Bool) → eqb (judge cs) withdrawn ≡ false → eqb (cond b (judge cs) (suc c.number_less_one)) withdrawn ≡ false
    go true rest = rest
    go false rest = h

-- ---- what a statement does: the numbers of cells and entity cells after it, and the number of its refusal

abbrev pub Numbers : Entities → List ℕ → Does → Type 0
Numbers e cells (next p cells') = length cells' ≡ length cells
Numbers e cells (puts p entities') = length entities' ≡ length e.cells
Numbers e cells (calls f) = Unit {0}
Numbers e cells (returns a) = Unit {0}
Numbers e cells (refuses n) = eqb n withdrawn ≡ false
Numbers e cells (hands_over h) = Unit {0}

-- no refusal of it is 26
abbrev pub NotWithdrawn : Does → Type 0
NotWithdrawn (next p cells) = Unit {0}
NotWithdrawn (puts p entities) = Unit {0}
NotWithdrawn (calls f) = Unit {0}
NotWithdrawn (returns a) = Unit {0}
NotWithdrawn (refuses n) = eqb n withdrawn ≡ false
NotWithdrawn (hands_over h) = Unit {0}

pub numbers_same : (e : Entities) (cells : List ℕ) (x : Does) → Numbers e cells x → SameNumbers e cells x
numbers_same e cells (next p cells') h = h
numbers_same e cells (puts p entities') h = h
numbers_same e cells (calls f) h = tt
numbers_same e cells (returns a) h = tt
numbers_same e cells (refuses n) h = tt
numbers_same e cells (hands_over x) h = tt

pub numbers_not_withdrawn : (e : Entities) (cells : List ℕ) (x : Does) → Numbers e cells x → NotWithdrawn x
numbers_not_withdrawn e cells (next p cells') h = tt
numbers_not_withdrawn e cells (puts p entities') h = tt
numbers_not_withdrawn e cells (calls f) h = tt
numbers_not_withdrawn e cells (returns a) h = tt
numbers_not_withdrawn e cells (refuses n) h = h
numbers_not_withdrawn e cells (hands_over x) h = tt

provided_numbers : (e : Entities) (cells : List ℕ) (cs : Conditions) (d : Does) → Without cs → Numbers e cells d → Numbers e cells (provided cs d)
provided_numbers e cells cs d w h = go (judge cs) refl
  where
    go : (n : ℕ) → judge cs ≡ n → Numbers e cells (or_refused n d)
    go zero q = h
    go (suc n) q = subst (λ (k : ℕ). eqb k withdrawn ≡ false) q (judge_without cs w)

-- ---- the accesses

module _ (g : Typing) where
  pub access_without : (t cell : ℕ) → Without (access g t cell)
  unfolding Without access vector_access cell_access
  access_without t cell = go (eqb t vector)
    where
      go : (b : Bool) → Without (cond b (vector_access g cell) (cell_access g t cell))
      go true = (refl, (refl, (refl, (refl, (refl, (refl, (refl, tt)))))))
      go false = (refl, (refl, tt))

  pub read_without : (must : Bool) (t cell : ℕ) (cells : List ℕ) → Without (read_access g must t cell cells)
  unfolding Without read_access
  read_without must t cell cells = without_both (access g t cell) _ (access_without t cell) (refl, tt)

  field_without : (t cell : ℕ) → Without (field_access g t cell)
  unfolding Without field_access field_cell_access
  field_without t cell = go (eqb t vector)
    where
      go : (b : Bool)
          → Without (cond b (field_cell_access g float cell ++ field_cell_access g float (cell + 1) ++ field_cell_access g float (cell + 2)) (field_cell_access g t cell))
      go true = (refl, (refl, (refl, (refl, (refl, (refl, tt))))))
      go false = (refl, (refl, tt))

  text_without : (bytes : List ℕ) (cell : ℕ) (cells : List ℕ) → Without (text_access g bytes cell cells)
  unfolding Without text_access
  text_without bytes cell cells = without_both (access g string cell) _ (access_without string cell) (refl, tt)

  strings_without : (bytes : List ℕ) (a b : ℕ) (cells : List ℕ) → Without (string_access g bytes a b cells)
  unfolding Without
  strings_without bytes a b cells = go (eqb a b)
    where
      go : (same : Bool) → Without (cond same [] (text_access g bytes a cells ++ text_access g bytes b cells))
      go true = tt
      go false = without_both (text_access g bytes a cells) (text_access g bytes b cells) (text_without bytes a cells) (text_without bytes b cells)

  move_without : (raw : Bool) (a b : ℕ) → Without (move_access g raw a b)
  unfolding Without cell_access
  move_without true a b = (refl, (refl, tt))
  move_without false a b = (refl, (refl, (refl, (refl, tt))))

pub one_without : (b : Bool) (n : ℕ) → eqb (suc (n - 1)) withdrawn ≡ false → Without ((b otherwise n) ∷ [])
unfolding Without
one_without b n h = (h, tt)

-- of a pointer to be made
address_without : (x y z : Bool) → Without ((x otherwise 30) ∷ (y otherwise 31) ∷ (z otherwise 32) ∷ [])
unfolding Without
address_without x y z = (refl, (refl, (refl, tt)))

-- ---- the numbers of cells

length_three : (xs : List ℕ) (i j k x y z : ℕ) → length (set (set (set xs i x) j y) k z) ≡ length xs
length_three xs i j k x y z = length-set (set (set xs i x) j y) k z ∙ length-set (set xs i x) j y ∙ length-set xs i x

length_moved : (t : ℕ) (from : List ℕ) (i : ℕ) (to : List ℕ) (j : ℕ) → length (value_moved t from i to j) ≡ length to
unfolding value_moved
length_moved t from i to j = go (eqb t vector)
  where
    go : (b : Bool)
        → length (cond b (set (set (set to j (get_or from i 0)) (j + 1) (get_or from (i + 1) 0)) (j + 2) (get_or from (i + 2) 0)) (set to j (get_or from i 0)))
        ≡ length to
    go true = length_three to j (j + 1) (j + 2) _ _ _
    go false = length-set to j _

-- ---- by shape

module _ (k : Tables) (p : ℤ) (st : Statement) (e : Entities) (cells : List ℕ) (a b c : ℕ) where
  abbrev g : Typing
  g = k.globals

  abbrev h : Typing
  h = k.fields

  abbrev Here : Does → Type 0
  Here x = Numbers e cells x

  builtin_numbers : (rounding : Option (ℕ → ℕ)) (n : ℕ) → Here (builtin_does rounding n g p cells)
  unfolding rounding_effect
  builtin_numbers (some f) n =
      provided_numbers e cells _ _ (without_both (access g float 4) (access g float 1) (access_without g float 4) (access_without g float 1)) (length-set cells 1 _)
  builtin_numbers none n = tt

  call_numbers : (functions : List FunctionDef) (f : ℕ) → Here (call_of functions g p f cells)
  unfolding call_of Without
  call_numbers functions f = provided_numbers e cells _ _ (refl, (refl, (refl, tt))) (go (is_builtin (get_or functions f no_function)))
    where
      n : ℕ
      n = builtin_of (get_or functions f no_function)

      go : (b : Bool) → Here (cond b (builtin_does (rounding_of n) n g p cells) (calls f))
      go true = builtin_numbers (rounding_of n) n
      go false = tt

  -- the conditions of reading and writing fields
  entity_reads : Without (read_access g (must_be_natural entity) entity a cells ++ read_access g (must_be_natural field) field b cells)
  entity_reads = without_both _ _ (read_without g (must_be_natural entity) entity a cells) (read_without g (must_be_natural field) field b cells)

  loads_without : (t : ℕ) → Without (loads_effect t g h e a b c cells).conditions
  unfolding loads_effect
  loads_without t =
      without_both _ _
      (without_three _ _ _
      (without_both _ _ entity_reads (access_without g t c))
      (one_without _ 30 refl)
      (field_without h t (get_or cells b 0)))
      (one_without _ 17 refl)

  addresses_without : Without (addresses_effect g h e a b c cells).conditions
  unfolding addresses_effect
  addresses_without = without_three _ _ _ entity_reads (access_without g pointer c) (address_without _ _ _)

  puts_without : (t : ℕ) → Without (stores_p_effect t g h e a b c cells).conditions
  unfolding stores_p_effect
  puts_without t =
      without_both _ _
      (without_three _ _ _
      (without_three _ _ _ (one_without _ 18 refl) (read_without g (must_be_natural t) t a cells) (access_without g pointer b))
      (one_without _ 32 refl)
      (field_without h t (get_or cells b 0 / 4 % h.count)))
      (one_without _ 17 refl)

  pub executed_numbers : (s : Shape) → Here (execute_as s k p st a b c e cells)
  unfolding floats_effect values_effect vectors_effect vector_result vectors_to_float_effect strings_effect negates_effect negates_v_effect negates_s_effect stores_effect stores_v_effect branches_do call_does loads_effect addresses_effect stores_p_effect
  executed_numbers (floats f) =
      provided_numbers e cells _ _ (without_three _ _ _ (access_without g float a) (access_without g float b) (access_without g float c)) (length-set cells c _)
  executed_numbers (values t f) =
      provided_numbers e cells _ _
      (without_three _ _ _ (read_without g (must_be_natural t) t a cells) (read_without g (must_be_natural t) t b cells) (access_without g float c))
      (length-set cells c _)
  executed_numbers (vectors ta tb f) =
      provided_numbers e cells _ _ (without_three _ _ _ (access_without g ta a) (access_without g tb b) (access_without g vector c)) (length_three cells c (c + 1) (c + 2) _ _ _)
  executed_numbers (vectors_to_float f) =
      provided_numbers e cells _ _ (without_three _ _ _ (access_without g vector a) (access_without g vector b) (access_without g float c)) (length-set cells c _)
  executed_numbers (strings when) =
      provided_numbers e cells _ _
      (without_both _ _
      (without_three _ _ _ (one_without _ 15 refl) (one_without _ 15 refl) (strings_without g k.strings a b cells))
      (access_without g float c))
      (length-set cells c _)
  executed_numbers (negates t f) =
      provided_numbers e cells _ _
      (without_three _ _ _ (one_without _ 18 refl) (read_without g (must_be_natural t) t a cells) (access_without g float c))
      (length-set cells c _)
  executed_numbers negates_v =
      provided_numbers e cells _ _ (without_three _ _ _ (one_without _ 18 refl) (access_without g vector a) (access_without g float c)) (length-set cells c _)
  executed_numbers negates_s =
      provided_numbers e cells _ _
      (without_both _ _
      (without_three _ _ _ (one_without _ 18 refl) (one_without _ 15 refl) (text_without g k.strings a cells))
      (access_without g float c))
      (length-set cells c _)
  executed_numbers (stores t) =
      provided_numbers e cells _ _
      (without_three _ _ _ (one_without _ 18 refl) (read_without g (stored_natural t) t a cells) (access_without g t b))
      (length-set cells b _)
  executed_numbers stores_v =
      let raw = reserved_cell b in
      provided_numbers e cells _ _
      (without_both _ _
      (without_three _ _ _ (one_without _ 18 refl) (move_without g raw a b) (move_without g raw (a + 1) (b + 1)))
      (move_without g raw (a + 2) (b + 2)))
      (length_three cells b (b + 1) (b + 2) _ _ _)
  executed_numbers (loads t) = provided_numbers e cells _ _ (loads_without t) (length_moved t e.cells _ cells c)
  executed_numbers addresses = provided_numbers e cells _ _ addresses_without (length-set cells c _)
  executed_numbers (stores_p t) = provided_numbers e cells _ _ (puts_without t) (length_moved t cells a e.cells _)
  executed_numbers (branches when) = provided_numbers e cells _ _ (access_without g float a) refl
  executed_numbers jumps = refl
  executed_numbers call = provided_numbers e cells _ _ (access_without g function a) (call_numbers k.functions (get_or cells a 0))
  executed_numbers return = tt
  executed_numbers host = tt

-- ---- the statement at a position

pub fetch_without : (statements : List Statement) (p : ℤ) → Without (fetch_conditions statements p)
unfolding Without fetch_conditions
fetch_without statements p = (refl, (refl, tt))

pub does_numbers : (k : Contents) (p : ℤ) (e : Entities) (cells : List ℕ) → Numbers e cells (does_at k p e cells)
unfolding does_at execute
does_numbers k p e cells =
    let st = statement_at k.statements p in
    provided_numbers e cells _ _ (fetch_without k.statements p)
    (executed_numbers (tables_of k) p st e cells (cell_of st.arg1) (cell_of st.arg2) (cell_of st.arg3) (shape_of st.opcode))

-- ---- the program of a file

module _ (file : List ℕ) where
  pub keeps_numbers : KeepsNumbers (program_of file)
  unfolding program_with
  keeps_numbers =
      record {
        enough = λ r lent h. (recorded_only least_cells file r lent h).enough;
        same_numbers = λ p e cells. numbers_same e cells (does_at (contents_at (file_of file) file) p e cells) (does_numbers (contents_at (file_of file) file) p e cells);
      }

  -- R-12: the second engine's, whatever its buffer holds
  pub unpacked_keeps_numbers : (buffer : List ℕ) → KeepsNumbers (with_unpacked (program_of file) buffer)
  unfolding program_with
  unpacked_keeps_numbers buffer =
      let k = with_statements (contents_at (file_of file) file) (unpacked_statements buffer (file_of file).statements.count) in
      record {
        enough = λ r lent h. (recorded_only least_cells file r lent h).enough;
        same_numbers = λ p e cells. numbers_same e cells (does_at k p e cells) (does_numbers k p e cells);
      }
