-- STATEMENTS. Document 01, "Cells and statements", globals.rs and pr_exec.c: what a statement does with the cells, for all 66 opcodes.
use Rattle.std.specs.Prelude.{ℕ, zero, suc, ◌+◌, ◌*◌, ◌/◌, ◌%◌, List, [], ◌∷◌, ◌++◌, Bool, true, false, not, ◌&&◌, ◌||◌, cond, length, get_or, set, leb, ltb, eqb, ℤ, pos, negsuc, ◌+ℤ◌}
use Rattle.std.specs.Bool.{beq}
use Rattle.std.proofs.Math.Option.{Option, none, some}
use Rattle.definition.specs.declared.Statement.{Statement}
use Rattle.definition.specs.declared.FunctionDef.{FunctionDef}
use Rattle.definition.specs.declared.Handover.{Handover}
use Rattle.definition.specs.declared.Handover.TheVariants.{Builtin, Opcode}
use Rattle.definition.specs.Checks.{Conditions, ◌otherwise◌, judge}
use Rattle.definition.specs.File.{opcode_count, greatest_pointer, negative, Contents, no_function, is_builtin, builtin_of, builtin_known}
use Rattle.definition.specs.Floats.{add_f, sub_f, mul_f, div_f, eq_f, ne_f, le_f, ge_f, lt_f, gt_f, and_f, or_f, not_f, bit_and_f, bit_or_f, is_zero, flag}
use Rattle.definition.specs.Floats.{mul_v, eq_v, ne_v, not_v, eq_n, ne_n, not_n, rounding_of}
use Rattle.definition.specs.Cells.{string, float, vector, entity, field, function, pointer, cell_of, signed, Typing, typing_of, fields_of}
use Rattle.definition.specs.Cells.{addressed, cell_access, access, must_be_natural, read_access, field_access}
use Rattle.definition.specs.Strings.{text_of, same_text, text_access}

-- R-3: "The host lends entity cells: up to 600 entities, each with the file's count of cells per entity": their number, and the lent cells
pub record Entities : Type 0 where
  pub count : ℕ
  pub cells : List ℕ

-- what the statement at a position does, with the cells and the entity cells as they are
pub data Does : Type 0 where
  -- it completes, and neither enters nor leaves a function: the new position, the new cells
  next : ℤ → List ℕ → Does
  -- it completes, and writes a field: the new position, the new entity cells
  puts : ℤ → List ℕ → Does
  -- a Call of that function, which is none of 19, 20, 5 or a builtin
  calls : ℕ → Does
  -- a Return or Done of the three cells from that one on
  returns : ℕ → Does
  refuses : ℕ → Does
  hands_over : Handover → Does

abbrev pub or_refused : ℕ → Does → Does
or_refused zero d = d
or_refused (suc n) d = refuses (suc n)

-- what is done, where all the conditions hold
abbrev pub provided : Conditions → Does → Does
provided cs d = or_refused (judge cs) d

-- ---- opcodes by the shape of what they do

pub data Shape : Type 0 where
  -- two floats to a float
  floats : (ℕ → ℕ → ℕ) → Shape
  -- two values of a type, entity or function, to a float
  values : ℕ → (ℕ → ℕ → ℕ) → Shape
  -- two operands, each a vector or a float for each component, to a vector
  vectors : ℕ → ℕ → (ℕ → ℕ → ℕ) → Shape
  -- two vectors to a float
  vectors_to_float : (ℕ → ℕ → ℕ → ℕ → ℕ → ℕ → ℕ) → Shape
  -- two strings to a float: EqS gives 1.0 where the texts are the same (true), NeS where they are not (false)
  strings : Bool → Shape
  -- a Not: a value of a type to a float; NotV and NotS go their own ways
  negates : ℕ → (ℕ → ℕ) → Shape
  negates_v : Shape
  negates_s : Shape
  -- a Store of a type; StoreV goes its own way
  stores : ℕ → Shape
  stores_v : Shape
  -- a field of a type is read; its pointer is made; a value of a type is written through a pointer (R-3)
  loads : ℕ → Shape
  addresses : Shape
  stores_p : ℕ → Shape
  -- IfNot jumps when the float is zero (true), If when it is not (false)
  branches : Bool → Shape
  jumps : Shape
  call : Shape
  return : Shape
  -- R-3: "Only opcode 60 and the other builtins still go to the host"
  host : Shape

-- opcodes 0 to 65 (ops.rs)
unfoldable pub opcodes : List Shape
opcodes =
    -- 0: Done, MulF, MulV, MulFV, MulVF, Div
    (return ∷ floats mul_f ∷ vectors_to_float mul_v ∷ vectors float vector mul_f ∷ vectors vector float mul_f ∷ floats div_f ∷ [])
    -- 6: AddF, AddV, SubF, SubV
    ++ (floats add_f ∷ vectors vector vector add_f ∷ floats sub_f ∷ vectors vector vector sub_f ∷ [])
    -- 10: EqF, EqV, EqS, EqEnt, EqFnc; NeF, NeV, NeS, NeEnt, NeFnc
    ++ (floats eq_f ∷ vectors_to_float eq_v ∷ strings true ∷ values entity eq_n ∷ values function eq_n ∷ [])
    ++ (floats ne_f ∷ vectors_to_float ne_v ∷ strings false ∷ values entity ne_n ∷ values function ne_n ∷ [])
    -- 20: Le, Ge, Lt, Gt
    ++ (floats le_f ∷ floats ge_f ∷ floats lt_f ∷ floats gt_f ∷ [])
    -- 24: LoadF, LoadV, LoadS, LoadEnt, LoadFld, LoadFnc, Address
    ++ (loads float ∷ loads vector ∷ loads string ∷ loads entity ∷ loads field ∷ loads function ∷ addresses ∷ [])
    -- 31: StoreF, StoreV, StoreS, StoreEnt, StoreFld, StoreFnc
    ++ (stores float ∷ stores_v ∷ stores string ∷ stores entity ∷ stores field ∷ stores function ∷ [])
    -- 37: StorePF, StorePV, StorePS, StorePEnt, StorePFld, StorePFnc
    ++ (stores_p float ∷ stores_p vector ∷ stores_p string ∷ stores_p entity ∷ stores_p field ∷ stores_p function ∷ [])
    -- 43: Return; NotF, NotV, NotS, NotEnt, NotFnc; If, IfNot
    ++ (return ∷ negates float not_f ∷ negates_v ∷ negates_s ∷ negates entity not_n ∷ negates function not_n ∷ branches false ∷ branches true ∷ [])
    -- 51: Call0 to Call8
    ++ (call ∷ call ∷ call ∷ call ∷ call ∷ call ∷ call ∷ call ∷ call ∷ [])
    -- 60: State, Goto, And, Or, BitAnd, BitOr
    ++ (host ∷ jumps ∷ floats and_f ∷ floats or_f ∷ floats bit_and_f ∷ floats bit_or_f ∷ [])

unfoldable pub shape_of : ℕ → Shape
unfolding opcodes
shape_of opcode = get_or opcodes opcode host

-- ---- the shapes that write cells, where the operands name the cells a, b and c ("Operand order is first, second, destination")

-- what such a statement checks, and the cells after it
pub record Effect : Type 0 where
  pub conditions : Conditions
  pub cells : List ℕ

-- "other statements but an entering Call, Return and Done add 1" to the position
abbrev pub effect_does : ℤ → Effect → Does
effect_does p e = provided e.conditions (next (p +ℤ pos 1) e.cells)

unfoldable pub floats_effect : (ℕ → ℕ → ℕ) → Typing → ℕ → ℕ → ℕ → List ℕ → Effect
floats_effect f g a b c cells =
    record {
      conditions = access g float a ++ access g float b ++ access g float c;
      cells = set cells c (f (get_or cells a 0) (get_or cells b 0));
    }

unfoldable pub values_effect : ℕ → (ℕ → ℕ → ℕ) → Typing → ℕ → ℕ → ℕ → List ℕ → Effect
values_effect t f g a b c cells =
    record {
      conditions = read_access g (must_be_natural t) t a cells ++ read_access g (must_be_natural t) t b cells ++ access g float c;
      cells = set cells c (f (get_or cells a 0) (get_or cells b 0));
    }

-- the cell of component i of an operand of a type: a float serves for all three
abbrev pub component : ℕ → ℕ → ℕ → ℕ
component t cell i = cond (eqb t vector) (cell + i) cell

-- "Vector arithmetic reads all before writing"
unfoldable pub vector_result : ℕ → ℕ → (ℕ → ℕ → ℕ) → ℕ → ℕ → ℕ → List ℕ → List ℕ
vector_result ta tb f a b c cells =
    set
    (set
    (set cells c (f (get_or cells a 0) (get_or cells b 0)))
    (c + 1) (f (get_or cells (component ta a 1) 0) (get_or cells (component tb b 1) 0)))
    (c + 2) (f (get_or cells (component ta a 2) 0) (get_or cells (component tb b 2) 0))

unfoldable pub vectors_effect : ℕ → ℕ → (ℕ → ℕ → ℕ) → Typing → ℕ → ℕ → ℕ → List ℕ → Effect
vectors_effect ta tb f g a b c cells =
    record {
      conditions = access g ta a ++ access g tb b ++ access g vector c;
      cells = vector_result ta tb f a b c cells;
    }

unfoldable pub vectors_to_float_effect : (ℕ → ℕ → ℕ → ℕ → ℕ → ℕ → ℕ) → Typing → ℕ → ℕ → ℕ → List ℕ → Effect
vectors_to_float_effect f g a b c cells =
    record {
      conditions = access g vector a ++ access g vector b ++ access g float c;
      cells = set cells c (f (get_or cells a 0) (get_or cells (a + 1) 0) (get_or cells (a + 2) 0) (get_or cells b 0) (get_or cells (b + 1) 0) (get_or cells (b + 2) 0));
    }

-- "EqS, NeS and NotS refuse negative operands 15 before any type check"
abbrev pub operand_given : ℕ → Conditions
operand_given cell = (ltb cell 32768 otherwise 15) ∷ []

-- R-4: "Equal operands of EqS and NeS are still answered unread", "in each access after type and address"
abbrev pub string_access : Typing → List ℕ → ℕ → ℕ → List ℕ → Conditions
string_access g bytes a b cells = cond (eqb a b) [] (text_access g bytes a cells ++ text_access g bytes b cells)

-- R-4: "compare bytes up to a zero byte or the end of the strings", which are `bytes`
abbrev pub same_strings : List ℕ → ℕ → ℕ → List ℕ → Bool
same_strings bytes a b cells = eqb a b || same_text (text_of bytes (get_or cells a 0)) (text_of bytes (get_or cells b 0))

-- "NeS still gives 1.0 or 0.0"
unfoldable pub strings_effect : Bool → Typing → List ℕ → ℕ → ℕ → ℕ → List ℕ → Effect
strings_effect when g bytes a b c cells =
    record {
      conditions = operand_given a ++ operand_given b ++ string_access g bytes a b cells ++ access g float c;
      cells = set cells c (flag (beq (same_strings bytes a b cells) when));
    }

-- "18: third operand of a Store (31 to 36) or second of a Not isn't 0"; R-3: "18 for the third operand of 37 to 42"
abbrev pub unused : ℕ → Conditions
unused cell = (eqb cell 0 otherwise 18) ∷ []

unfoldable pub negates_effect : ℕ → (ℕ → ℕ) → Typing → ℕ → ℕ → ℕ → List ℕ → Effect
negates_effect t f g a b c cells =
    record {
      conditions = unused b ++ read_access g (must_be_natural t) t a cells ++ access g float c;
      cells = set cells c (f (get_or cells a 0));
    }

-- NotV writes one float (pr_exec.c)
unfoldable pub negates_v_effect : Typing → ℕ → ℕ → ℕ → List ℕ → Effect
negates_v_effect g a b c cells =
    record {
      conditions = unused b ++ access g vector a ++ access g float c;
      cells = set cells c (not_v (get_or cells a 0) (get_or cells (a + 1) 0) (get_or cells (a + 2) 0));
    }

-- R-4: "NotS is 1.0 for string number 0 and for an empty string, and still for operand 0", "refused 33 .. for operand 0 too"
unfoldable pub negates_s_effect : Typing → List ℕ → ℕ → ℕ → ℕ → List ℕ → Effect
negates_s_effect g bytes a b c cells =
    let number = get_or cells a 0 in
    record {
      conditions = unused b ++ operand_given a ++ text_access g bytes a cells ++ access g float c;
      cells = set cells c (flag (eqb a 0 || eqb number 0 || same_text (text_of bytes number) []));
    }

abbrev pub moved : ℕ → ℕ → List ℕ → List ℕ
moved a b cells = set cells b (get_or cells a 0)

-- "negative entity or field read, or negative string in StoreS"
abbrev pub stored_natural : ℕ → Bool
stored_natural t = must_be_natural t || eqb t string

unfoldable pub stores_effect : ℕ → Typing → ℕ → ℕ → ℕ → List ℕ → Effect
stores_effect t g a b c cells =
    record {
      conditions = unused c ++ read_access g (stored_natural t) t a cells ++ access g t b;
      cells = moved a b cells;
    }

-- "where the destination is 1 to 27 all three, source and destination, are checked by address alone": the cells of the return value and the arguments,
-- which come before RESERVED_OFS in pr_comp.h
abbrev pub reserved_cell : ℕ → Bool
reserved_cell cell = leb 1 cell && leb cell 27

abbrev pub move_access : Typing → Bool → ℕ → ℕ → Conditions
move_access g raw a b = cond raw (addressed g a ++ addressed g b) (cell_access g float a ++ cell_access g float b)

-- "StoreV goes cell by cell, source before destination, each typed as float"
unfoldable pub stores_v_effect : Typing → ℕ → ℕ → ℕ → List ℕ → Effect
stores_v_effect g a b c cells =
    let raw = reserved_cell b in
    record {
      conditions = unused c ++ move_access g raw a b ++ move_access g raw (a + 1) (b + 1) ++ move_access g raw (a + 2) (b + 2);
      cells = moved (a + 2) (b + 2) (moved (a + 1) (b + 1) (moved a b cells));
    }

-- ---- the fields of entities (R-3)

-- a value of a type goes from one list of cells to another: "Opcodes 24 to 29 read the field", "37 to 42 write the first operand"
unfoldable pub value_moved : ℕ → List ℕ → ℕ → List ℕ → ℕ → List ℕ
value_moved t from i to j =
    let first = set to j (get_or from i 0) in
    cond (eqb t vector) (set (set first (j + 1) (get_or from (i + 1) 0)) (j + 2) (get_or from (i + 2) 0)) first

-- "read the field in the second operand of the entity in the first"; "After the operand checks .. comes 30 for an entity not below the count; ..
-- then, cell by cell, 16 by field definition .. and 31 ..; then 17 for a negative string, entity or field moved"
unfoldable pub loads_effect : ℕ → Typing → Typing → Entities → ℕ → ℕ → ℕ → List ℕ → Effect
loads_effect t g h e a b c cells =
    let number = get_or cells a 0 in
    let named = get_or cells b 0 in
    let at = number * h.count + named in
    record {
      conditions =
          read_access g (must_be_natural entity) entity a cells
          ++ read_access g (must_be_natural field) field b cells
          ++ access g t c
          ++ ((ltb number e.count otherwise 30) ∷ [])
          ++ field_access h t named
          ++ ((not (stored_natural t && negative (get_or e.cells at 0)) otherwise 17) ∷ []);
      cells = value_moved t e.cells at cells c;
    }

-- "30 makes a pointer"; "A pointer, its cell typed 7, is (entity times cells per entity, plus field) times 4"; "16 by field definition (not for 30)";
-- "32 for a pointer to be made over 2,147,483,647"
unfoldable pub addresses_effect : Typing → Typing → Entities → ℕ → ℕ → ℕ → List ℕ → Effect
addresses_effect g h e a b c cells =
    let number = get_or cells a 0 in
    let named = get_or cells b 0 in
    let made = (number * h.count + named) * 4 in
    record {
      conditions =
          read_access g (must_be_natural entity) entity a cells
          ++ read_access g (must_be_natural field) field b cells
          ++ access g pointer c
          ++ ((ltb number e.count otherwise 30) ∷ (ltb named h.count otherwise 31) ∷ (leb made greatest_pointer otherwise 32) ∷ []);
      cells = set cells c made;
    }

-- "32 for a pointer that is negative, no multiple of 4 or past the last entity"
abbrev pub points_at_field : Typing → Entities → ℕ → Bool
points_at_field h e p = not (negative p) && eqb (p % 4) 0 && ltb (p / 4 / h.count) e.count

-- "37 to 42 write the first operand through the pointer in the second": the cells after it are the entity cells. (40 and 41 read an entity and a
-- field, which are not negative; so 17 comes last for a string alone.)
unfoldable pub stores_p_effect : ℕ → Typing → Typing → Entities → ℕ → ℕ → ℕ → List ℕ → Effect
stores_p_effect t g h e a b c cells =
    let p = get_or cells b 0 in
    record {
      conditions =
          unused c
          ++ read_access g (must_be_natural t) t a cells
          ++ access g pointer b
          ++ ((points_at_field h e p otherwise 32) ∷ [])
          ++ field_access h t (p / 4 % h.count)
          ++ ((not (eqb t string && negative (get_or cells a 0)) otherwise 17) ∷ []);
      cells = value_moved t cells a e.cells (p / 4);
    }

abbrev pub put_does : ℤ → Effect → Does
put_does p x = provided x.conditions (puts (p +ℤ pos 1) x.cells)

-- "If jumps unless the float is +0 or -0 (so on NaN); IfNot jumps on those two. A jump adds to the position"
unfoldable pub branches_do : Bool → Typing → ℤ → ℕ → ℤ → List ℕ → Does
branches_do when g p a by cells =
    provided (access g float a) (next (p +ℤ cond (beq (is_zero (get_or cells a 0)) when) by (pos 1)) cells)

-- R-1: "float in cell 4, result in cell 1, both typed": the cells of the first argument and of the return value
unfoldable pub rounding_effect : (ℕ → ℕ) → Typing → List ℕ → Effect
rounding_effect f g cells =
    record {
      conditions = access g float 4 ++ access g float 1;
      cells = set cells 1 (f (get_or cells 4 0));
    }

-- "a builtin is then handed over"; R-1: "these four are no longer handed over", "Each counts as one completed statement"
abbrev pub builtin_does : Option (ℕ → ℕ) → ℕ → Typing → ℤ → List ℕ → Does
builtin_does (some f) n g p cells = effect_does p (rounding_effect f g cells)
builtin_does none n g p cells = hands_over (Builtin n)

-- "19: function 0; 20: no such function; 5 again"
unfoldable pub call_of : List FunctionDef → Typing → ℤ → ℕ → List ℕ → Does
call_of functions g p f cells =
    let d = get_or functions f no_function in
    provided
    ((not (eqb f 0) otherwise 19) ∷ (ltb f (length functions) otherwise 20) ∷ (builtin_known d otherwise 5) ∷ [])
    (cond (is_builtin d) (builtin_does (rounding_of (builtin_of d)) (builtin_of d) g p cells) (calls f))

unfoldable pub call_does : List FunctionDef → Typing → ℤ → ℕ → List ℕ → Does
call_does functions g p a cells = provided (access g function a) (call_of functions g p (get_or cells a 0) cells)

-- ---- fetch and execution

abbrev pub no_statement : Statement
no_statement = record { opcode = 0; arg1 = 0; arg2 = 0; arg3 = 0 }

-- a signed number as one of n places, n where it is negative
abbrev pub place_of : ℕ → ℤ → ℕ
place_of n (pos i) = i
place_of n (negsuc i) = n

abbrev pub statement_at : List Statement → ℤ → Statement
statement_at statements p = get_or statements (place_of (length statements) p) no_statement

-- "14: no statement there", "below 0 too", then "7: opcode"
unfoldable pub fetch_conditions : List Statement → ℤ → Conditions
fetch_conditions statements p =
    (ltb (place_of (length statements) p) (length statements) otherwise 14)
    ∷ (ltb (statement_at statements p).opcode opcode_count otherwise 7)
    ∷ []

-- what a statement looks up in the file
pub record Tables : Type 0 where
  pub functions : List FunctionDef
  pub globals : Typing
  pub fields : Typing
  pub strings : List ℕ

abbrev pub tables_of : Contents → Tables
tables_of k = record { functions = k.functions; globals = typing_of k; fields = fields_of k; strings = k.strings }

-- a statement of a shape at the position p, whose operands name the cells a, b and c
abbrev pub execute_as : Shape → Tables → ℤ → Statement → ℕ → ℕ → ℕ → Entities → List ℕ → Does
execute_as (floats f) k p st a b c e cells = effect_does p (floats_effect f k.globals a b c cells)
execute_as (values t f) k p st a b c e cells = effect_does p (values_effect t f k.globals a b c cells)
execute_as (vectors ta tb f) k p st a b c e cells = effect_does p (vectors_effect ta tb f k.globals a b c cells)
execute_as (vectors_to_float f) k p st a b c e cells = effect_does p (vectors_to_float_effect f k.globals a b c cells)
execute_as (strings when) k p st a b c e cells = effect_does p (strings_effect when k.globals k.strings a b c cells)
execute_as (negates t f) k p st a b c e cells = effect_does p (negates_effect t f k.globals a b c cells)
execute_as negates_v k p st a b c e cells = effect_does p (negates_v_effect k.globals a b c cells)
execute_as negates_s k p st a b c e cells = effect_does p (negates_s_effect k.globals k.strings a b c cells)
execute_as (stores t) k p st a b c e cells = effect_does p (stores_effect t k.globals a b c cells)
execute_as stores_v k p st a b c e cells = effect_does p (stores_v_effect k.globals a b c cells)
execute_as (loads t) k p st a b c e cells = effect_does p (loads_effect t k.globals k.fields e a b c cells)
execute_as addresses k p st a b c e cells = effect_does p (addresses_effect k.globals k.fields e a b c cells)
execute_as (stores_p t) k p st a b c e cells = put_does p (stores_p_effect t k.globals k.fields e a b c cells)
execute_as (branches when) k p st a b c e cells = branches_do when k.globals p a (signed st.arg2) cells
execute_as jumps k p st a b c e cells = next (p +ℤ signed st.arg1) cells
execute_as call k p st a b c e cells = call_does k.functions k.globals p a cells
execute_as return k p st a b c e cells = returns a
execute_as host k p st a b c e cells = hands_over (Opcode st.opcode)

abbrev pub execute_in : Tables → ℤ → Statement → Entities → List ℕ → Does
execute_in k p st e cells =
    execute_as (shape_of st.opcode) k p st (cell_of st.arg1) (cell_of st.arg2) (cell_of st.arg3) e cells

unfoldable pub execute : Contents → ℤ → Statement → Entities → List ℕ → Does
execute k p st e cells = execute_in (tables_of k) p st e cells

-- the statement at the position p
unfoldable pub does_at : Contents → ℤ → Entities → List ℕ → Does
does_at k p e cells = provided (fetch_conditions k.statements p) (execute k p (statement_at k.statements p) e cells)
