-- SINGLE STATEMENTS, as rows of one table that is computed from the definition: what each opcode does with operands that tell it from its neighbours, and
-- what it refuses, in which order. A row is a statement at position 2 over 64 cells and two entities, and what it does: all cells are compared, not only
-- those it names. What a row says was worked out by hand from document 01's words, 02's and IEEE 754's arithmetic, not taken from the definition. The model in tests/model,
-- which was made without reading the definition, gives the same.
use Rattle.std.specs.Prelude.{ℕ, zero, suc, ◌+◌, ◌*◌, List, [], ◌∷◌, ◌++◌, Bool, true, false, ◌&&◌, ℤ, pos, negsuc, replicate, set, T, eqb}
use Prim.Native.String.{String}
use Rattle.std.specs.Float.Ieee as Ieee
use Rattle.definition.specs.declared.Statement.{Statement}
use Rattle.definition.specs.declared.Definition.{Definition}
use Rattle.definition.specs.declared.FunctionDef.{FunctionDef}
use Rattle.definition.specs.declared.Handover.TheVariants.{Builtin, Opcode}
use Rattle.definition.specs.Checks.{judge}
use Rattle.definition.specs.File.{Contents, builtin_number}
use Rattle.definition.specs.Floats.{rounded, absolute, rounding_of}
use Rattle.definition.specs.Cells.{lookup, scalar, passes, signed, cell_of, cell_access, vector_access, access, read_access, field_cell_access, field_access}
use Rattle.definition.specs.Strings.{up_to_zero, same_text, text_access}
use Rattle.definition.specs.Statements.{Does, next, puts, calls, returns, refuses, hands_over, shape_of, fetch_conditions, execute, does_at}
use Rattle.definition.specs.Statements.{floats_effect, values_effect, vector_result, vectors_effect, vectors_to_float_effect, strings_effect}
use Rattle.definition.specs.Statements.{negates_effect, negates_v_effect, negates_s_effect, stores_effect, stores_v_effect, branches_do, rounding_effect, call_of, call_does}
use Rattle.definition.specs.Statements.{value_moved, loads_effect, addresses_effect, stores_p_effect}
use Rattle.definition.specs.Starred.{same_numbers}

-- ---- the program and its cells

-- a cell and its content
infix 70 ◌holds◌
pub data Cell : Type 0 where
  ◌holds◌ : ℕ → ℕ → Cell

abbrev with : List Cell → List ℕ → List ℕ
with [] cells = cells
with (a holds x ∷ given) cells = with given (set cells a x)

-- so many numbers, from a on
abbrev pub numbers : ℕ → ℕ → List ℕ
numbers zero a = []
numbers (suc n) a = a ∷ numbers n (a + 1)

-- 64 cells, each with its own number in it, but these
abbrev cells_with : List Cell → List ℕ
cells_with given = with given (numbers 64 0)

abbrev op : ℕ → ℕ → ℕ → ℕ → Statement
op opcode a b c = record { opcode = opcode; arg1 = a; arg2 = b; arg3 = c }

abbrev define : ℕ → ℕ → Definition
define kind cell = record { kind = kind; offset = cell; name = 0 }

-- a function at this statement
abbrev fn : ℕ → FunctionDef
fn first = record { first = first; start = 0; locals = 0; name = 0; srcfile = 0; argc = 0; argsz = replicate 8 0 }

-- Function 2 is the builtin 35, function 3 is minus 5, which is none, function 4 is the builtin 1, function 5 is the builtin 36, rint. The field definitions
-- bind fields and no cells: 30 is a string, 31 a float, 32 an entity, 33 a field, 34 a function, 35 a pointer, 36 a vector; 40 is void and then a string.
-- Each of the 64 string numbers has a text of its own, none of them empty, which ends with the strings.
abbrev program : List Definition → Statement → Contents
program definitions st =
    record {
      statements = op 0 0 0 0 ∷ op 0 0 0 0 ∷ st ∷ [];
      globaldefs = definitions;
      fielddefs = define 1 30 ∷ define 2 31 ∷ define 4 32 ∷ define 5 33 ∷ define 6 34 ∷ define 7 35 ∷ define 3 36 ∷ define 0 40 ∷ define 1 40 ∷ [];
      functions = fn 0 ∷ fn 1 ∷ fn 0xffffffdd ∷ fn 0xfffffffb ∷ fn 0xffffffff ∷ fn 0xffffffdc ∷ [];
      strings = numbers 64 1;
      globals = numbers 64 0;
      entityfields = 105;
    }

-- two entities of 105 cells, and two lent cells more, each with 1,000 and its own number in it
abbrev lent_entities : List ℕ
lent_entities = numbers 212 1000

abbrev untyped : List Definition
untyped = []

-- cell 0 is a float, 1 a string, 27 an entity, 28 a string, 29 void; from 36 on every third cell has a type, so that a vector there has one typed cell: 36
-- is void and then a pointer, 39 void with the save flag and then a string, 42 a float and then void, 45 a vector, 48 an entity, 51 a field, 54 a function,
-- 57 a pointer, 60 a float with the save flag; of the cells past the count 64 is a string, 65 a float
abbrev typed : List Definition
typed =
    (define 2 0 ∷ define 1 1 ∷ define 4 27 ∷ define 1 28 ∷ define 0 29 ∷ [])
    ++ (define 0 36 ∷ define 7 36 ∷ define 0x8000 39 ∷ define 1 39 ∷ define 2 42 ∷ define 0 42 ∷ [])
    ++ (define 3 45 ∷ define 4 48 ∷ define 5 51 ∷ define 6 54 ∷ define 7 57 ∷ define 0x8002 60 ∷ [])
    ++ (define 1 64 ∷ define 2 65 ∷ [])

-- a cell without a definition, one with a void definition alone, then those of all types
abbrev cells_of_types : List ℕ
cells_of_types = 30 ∷ 29 ∷ 39 ∷ 42 ∷ 45 ∷ 48 ∷ 51 ∷ 54 ∷ 57 ∷ 60 ∷ []

-- ---- what is seen

-- 0 completes, 1 enters, 2 leaves, 3 is refused, 4 hands a builtin over, 5 hands an opcode over, 6 completes and writes a field; position, function, cell or
-- number; the cells after it; the entity cells after it, none where it does not write them
pub record Seen : Type 0 where
  kind : ℕ
  number : ℤ
  cells : List ℕ
  entities : List ℕ

abbrev seen : Does → List ℕ → Seen
seen (next p after) cells = record { kind = 0; number = p; cells = after; entities = [] }
seen (puts p entities) cells = record { kind = 6; number = p; cells = cells; entities = entities }
seen (calls f) cells = record { kind = 1; number = pos f; cells = cells; entities = [] }
seen (returns a) cells = record { kind = 2; number = pos a; cells = cells; entities = [] }
seen (refuses n) cells = record { kind = 3; number = pos n; cells = cells; entities = [] }
seen (hands_over (Builtin n)) cells = record { kind = 4; number = pos n; cells = cells; entities = [] }
seen (hands_over (Opcode n)) cells = record { kind = 5; number = pos n; cells = cells; entities = [] }

-- over the cells before it
abbrev Outcome : Type 0
Outcome = List ℕ → Seen

-- the position after it, and the cells that it writes
abbrev completes : ℤ → List Cell → Outcome
completes p written cells = seen (next p (with written cells)) cells

-- the entity cells that it writes: "other statements .. add 1"
abbrev writes_fields : List Cell → Outcome
writes_fields written cells = seen (puts (pos 3) (with written lent_entities)) cells

-- the function that a Call enters
abbrev enters : ℕ → Outcome
enters f = seen (calls f)

-- the first of the three cells that a Return or Done copies
abbrev leaves : ℕ → Outcome
leaves a = seen (returns a)

abbrev refused : ℕ → Outcome
refused n = seen (refuses n)

abbrev builtin : ℕ → Outcome
builtin n = seen (hands_over (Builtin n))

abbrev opcode : ℕ → Outcome
opcode n = seen (hands_over (Opcode n))

-- ---- the table

pub data Row : Type 0 where
  -- words, the global definitions, the statement, the cells that are not their own number, and what it does
  row : String → List Definition → Statement → List Cell → Outcome → Row
  -- words, opcodes, the statement of an opcode and a cell, and the numbers of the refusals for the cells of all types, 0 where there is none
  types : String → List ℕ → (ℕ → ℕ → Statement) → List ℕ → Row

abbrev does : List Definition → Statement → List ℕ → Does
does definitions st cells = does_at (program definitions st) (pos 2) (record { count = 2; cells = lent_entities }) cells

-- the number of the refusal, 0 where there is none
abbrev pub refusal_of : Does → ℕ
refusal_of (next p cells) = 0
refusal_of (puts p entities) = 0
refusal_of (calls f) = 0
refusal_of (returns a) = 0
refusal_of (refuses n) = n
refusal_of (hands_over h) = 0

abbrev refusals : (ℕ → Statement) → List ℕ → List ℕ
refusals st [] = []
refusals st (a ∷ cells) = refusal_of (does typed (st a) (cells_with [])) ∷ refusals st cells

abbrev same_integer : ℤ → ℤ → Bool
same_integer (pos m) (pos n) = eqb m n
same_integer (pos m) (negsuc n) = false
same_integer (negsuc m) (pos n) = false
same_integer (negsuc m) (negsuc n) = eqb m n

abbrev same : Seen → Seen → Bool
same a b = eqb a.kind b.kind && same_integer a.number b.number && same_numbers a.cells b.cells && same_numbers a.entities b.entities

abbrev each : List ℕ → (ℕ → Bool) → Bool
each [] test = true
each (x ∷ xs) test = test x && each xs test

abbrev stands : Row → Bool
stands (row words definitions st given outcome) =
    let cells = cells_with given in
    same (seen (does definitions st cells) cells) (outcome cells)
stands (types words opcodes st numbers) = each opcodes (λ o. same_numbers (refusals (st o) cells_of_types) numbers)

abbrev pub all : List Row → Bool
all [] = true
all (r ∷ rows) = stands r && all rows

-- ---- what several rows share

abbrev one : ℕ
one = 0x3f800000

abbrev two : ℕ
two = 0x40000000

abbrev three : ℕ
three = 0x40400000

abbrev minus_zero : ℕ
minus_zero = 0x80000000

abbrev nan : ℕ
nan = 0x7fc00000

-- "other statements .. add 1"
abbrev writes : List Cell → Outcome
writes = completes (pos 3)

-- to cell 36
abbrev gives : ℕ → Outcome
gives x = writes (36 holds x ∷ [])

-- "Comparisons give 1.0 or 0.0"
abbrev yes : Outcome
yes = gives one

abbrev no : Outcome
no = gives 0

abbrev pair : ℕ → ℕ → List Cell
pair x y = 30 holds x ∷ 33 holds y ∷ []

abbrev vector : ℕ → ℕ → ℕ → ℕ → List Cell
vector a x y z = a holds x ∷ (a + 1) holds y ∷ (a + 2) holds z ∷ []

-- an opcode of cells 30 and 33 into 36, with these in them
abbrev binary : String → ℕ → ℕ → ℕ → Outcome → Row
binary words o x y = row words untyped (op o 30 33 36) (pair x y)

-- of the vectors from 30 and from 33 on
abbrev binary_v : String → ℕ → List Cell → List Cell → Outcome → Row
binary_v words o a b = row words untyped (op o 30 33 36) (a ++ b)

-- of cell 30 into 36
abbrev unary : String → ℕ → ℕ → Outcome → Row
unary words o x = row words untyped (op o 30 0 36) (30 holds x ∷ [])

-- the same of several opcodes
abbrev of : List ℕ → (ℕ → Row) → List Row
of [] r = []
of (o ∷ os) r = r o ∷ of os r

-- that they are refused, with the typed cells
abbrev refuse : String → List ℕ → (ℕ → Statement) → ℕ → List Row
refuse words os st n = of os (λ o. row words typed (st o) [] (refused n))

-- ---- opcodes 0 to 65 (`ops.rs`), each with operands that tell it from its neighbours

-- 1.5 is 3fc00000, 4.0 is 40800000, 5.0 is 40a00000, 6.0 is 40c00000, 7.0 is 40e00000, 32.0 is 42000000, -1.0 is bf800000; "Vector arithmetic reads all
-- before writing"
abbrev arithmetic : List Row
arithmetic =
    binary "MulF" 1 three two (gives 0x40c00000)
    ∷ binary "Div" 5 three two (gives 0x3fc00000)
    ∷ binary "AddF" 6 three two (gives 0x40a00000)
    ∷ binary "SubF" 8 three two (gives one)
    ∷ binary "BitAnd: 6 and 3" 64 0x40c00000 three (gives two)
    ∷ binary "BitOr: 6 or 3" 65 0x40c00000 three (gives 0x40e00000)
    ∷ binary_v "MulV: 1, 2, 3 and 4, 5, 6" 2 (vector 30 one two three) (vector 33 0x40800000 0x40a00000 0x40c00000) (gives 0x42000000)
    ∷ binary_v "MulFV: the float serves for all three" 3 (vector 30 two 7 7) (vector 33 one two three) (writes (vector 36 two 0x40800000 0x40c00000))
    ∷ binary_v "MulVF" 4 (vector 30 one two three) (vector 33 two 7 7) (writes (vector 36 two 0x40800000 0x40c00000))
    ∷ binary_v "AddV" 7 (vector 30 0x40a00000 two one) (vector 33 one one two) (writes (vector 36 0x40c00000 three three))
    ∷ binary_v "SubV" 9 (vector 30 0x40a00000 two one) (vector 33 one one two) (writes (vector 36 0x40800000 one 0xbf800000))
    ∷ row "a destination that is an operand" untyped (op 8 30 33 30) (pair three two) (writes (30 holds one ∷ []))
    ∷ row "both operands one cell" untyped (op 6 30 30 30) (30 holds one ∷ []) (writes (30 holds two ∷ []))
    ∷ row "reads all before writing: SubV" untyped (op 9 30 33 31) (vector 30 one two three ++ vector 33 0 0 0) (writes (vector 31 one two three))
    ∷ row "reads all before writing: MulVF" untyped (op 4 30 33 31) (vector 30 one two three ++ (33 holds two ∷ [])) (writes (vector 31 two 0x40800000 0x40c00000))
    ∷ row "reads all before writing: MulFV" untyped (op 3 31 33 30) (31 holds two ∷ vector 33 one two three) (writes (vector 30 two 0x40800000 0x40c00000))
    ∷ []

-- 1.0 and 2.0; -0 and +0; 2.0 and 1.0; -1.0 and -2.0; NaN and itself, 1.0 and NaN, NaN and 1.0
abbrev comparison : String → ℕ → (less equal greater unordered : Outcome) → List Row
comparison words o less equal greater unordered =
    binary words o one two less
    ∷ binary words o minus_zero 0 equal
    ∷ binary words o two one greater
    ∷ binary words o 0xbf800000 0xc0000000 greater
    ∷ binary words o nan nan unordered
    ∷ binary words o one nan unordered
    ∷ binary words o nan one unordered
    ∷ []

-- -0 and +0; -0 and 1.0; NaN and +0; 1.0 and NaN
abbrev connective : String → ℕ → (neither second first both : Outcome) → List Row
connective words o neither second first both =
    binary words o minus_zero 0 neither ∷ binary words o minus_zero one second ∷ binary words o nan 0 first ∷ binary words o one nan both ∷ []

-- equal but for the sign of a zero; with one component that differs; with a NaN
abbrev comparison_v : String → ℕ → (equal different : Outcome) → List Row
comparison_v words o equal different =
    binary_v words o (vector 30 one minus_zero three) (vector 33 one 0 three) equal
    ∷ binary_v words o (vector 30 two two three) (vector 33 one two three) different
    ∷ binary_v words o (vector 30 one one three) (vector 33 one two three) different
    ∷ binary_v words o (vector 30 one two two) (vector 33 one two three) different
    ∷ binary_v words o (vector 30 one two nan) (vector 33 one two nan) different
    ∷ []

abbrev comparison_n : String → ℕ → (equal different : Outcome) → List Row
comparison_n words o equal different =
    binary words o 7 7 equal ∷ binary words o 7 8 different ∷ binary words o 0x7fffffff 0 different ∷ []

-- of strings (document 02, R-4), by the texts of numbers: below 0 and from 64 on there are none
abbrev comparison_s : String → ℕ → (equal different : Outcome) → List Row
comparison_s words o equal different =
    binary words o 7 7 equal
    ∷ binary words o 7 8 different
    ∷ binary words o 8 7 different
    ∷ binary words o 63 0 different
    ∷ binary "33: the first, 64" o 64 7 (refused 33)
    ∷ binary "33: the second, 64" o 7 64 (refused 33)
    ∷ binary "33: the greatest number" o 0x7fffffff 0 (refused 33)
    ∷ binary "33: below 0" o minus_zero 0 (refused 33)
    ∷ binary "33: below 0, the second" o 0 0xffffffff (refused 33)
    ∷ binary "33: equal numbers in two cells" o nan nan (refused 33)
    ∷ []

-- "Comparisons give 1.0 or 0.0"
abbrev comparisons : List Row
comparisons =
    comparison "EqF" 10 no yes no no
    ++ comparison "NeF" 15 yes no yes yes
    ++ comparison "Le" 20 yes yes no no
    ++ comparison "Ge" 21 no yes yes no
    ++ comparison "Lt" 22 yes no no no
    ++ comparison "Gt" 23 no no yes no
    ++ connective "And" 62 no no no yes
    ++ connective "Or" 63 no yes yes yes
    ++ comparison_v "EqV" 11 yes no
    ++ comparison_v "NeV" 16 no yes
    ++ comparison_s "EqS" 12 yes no
    ++ comparison_n "EqEnt" 13 yes no
    ++ comparison_n "EqFnc" 14 yes no
    ++ comparison_s "NeS" 17 no yes
    ++ comparison_n "NeEnt" 18 no yes
    ++ comparison_n "NeFnc" 19 no yes
    ++ (binary "EqFnc compares numbers, not floats" 14 minus_zero 0 no ∷ binary "NeFnc" 19 minus_zero 0 yes ∷ binary "EqFnc of NaN bits" 14 nan nan yes ∷ [])

abbrev nots : List Row
nots =
    unary "NotF" 44 0 yes
    ∷ unary "NotF of -0" 44 minus_zero yes
    ∷ unary "NotF of NaN" 44 nan no
    ∷ unary "NotF of the least float" 44 1 no
    ∷ row "NotV: all three" untyped (op 45 30 0 36) (vector 30 0 minus_zero 0) yes
    ∷ row "NotV: the first" untyped (op 45 30 0 36) (vector 30 one 0 0) no
    ∷ row "NotV: the second" untyped (op 45 30 0 36) (vector 30 0 nan 0) no
    ∷ row "NotV: the third" untyped (op 45 30 0 36) (vector 30 0 0 one) no
    ∷ unary "NotS is 1.0 for string number 0, whatever its text" 46 0 yes
    ∷ unary "NotS" 46 7 no
    ∷ unary "NotS of the last byte" 46 63 no
    ∷ unary "33: NotS of 64" 46 64 (refused 33)
    ∷ unary "33: NotS of a negative string number" 46 minus_zero (refused 33)
    ∷ unary "NotEnt" 47 0 yes
    ∷ unary "NotEnt of another" 47 7 no
    ∷ unary "NotFnc" 48 0 yes
    ∷ unary "NotFnc of another" 48 7 no
    ∷ unary "NotFnc of a negative number" 48 minus_zero no
    ∷ []

-- "StoreF, StoreV and StoreFnc move bits"
abbrev stores : List Row
stores =
    of (31 ∷ 33 ∷ 34 ∷ 35 ∷ 36 ∷ []) (λ o. row "Store" untyped (op o 30 31 0) (30 holds 0x12345678 ∷ []) (writes (31 holds 0x12345678 ∷ [])))
    ++ (row "StoreV" untyped (op 32 30 40 0) [] (writes (vector 40 30 31 32))
    ∷ row "StoreF moves bits" untyped (op 31 30 31 0) (30 holds 0xffc00000 ∷ []) (writes (31 holds 0xffc00000 ∷ []))
    ∷ row "StoreF moves bits, of a signalling NaN" untyped (op 31 30 31 0) (30 holds 0x7f800001 ∷ []) (writes (31 holds 0x7f800001 ∷ []))
    ∷ row "StoreV moves bits" untyped (op 32 30 40 0) (vector 30 0xffc00000 0x7fa00000 0xff800001) (writes (vector 40 0xffc00000 0x7fa00000 0xff800001))
    ∷ row "StoreFnc moves bits" untyped (op 36 30 31 0) (30 holds 0xffc00000 ∷ []) (writes (31 holds 0xffc00000 ∷ []))
    ∷ [])

-- "If jumps unless the float is +0 or -0 (so on NaN); IfNot jumps on those two. A jump adds to the position", which is 2
abbrev jumps : List Row
jumps =
    (row "If" untyped (op 49 30 5 0) (30 holds one ∷ []) (completes (pos 7) [])
    ∷ row "If on the least float" untyped (op 49 30 5 0) (30 holds 1 ∷ []) (completes (pos 7) [])
    ∷ row "If on a negative NaN" untyped (op 49 30 5 0) (30 holds 0xffc00000 ∷ []) (completes (pos 7) [])
    ∷ row "If on +0" untyped (op 49 30 5 0) (30 holds 0 ∷ []) (completes (pos 3) [])
    ∷ row "If on -0" untyped (op 49 30 5 0) (30 holds minus_zero ∷ []) (completes (pos 3) [])
    ∷ row "IfNot" untyped (op 50 30 5 0) (30 holds one ∷ []) (completes (pos 3) [])
    ∷ row "IfNot on the least float" untyped (op 50 30 5 0) (30 holds 1 ∷ []) (completes (pos 3) [])
    ∷ row "IfNot on NaN" untyped (op 50 30 5 0) (30 holds nan ∷ []) (completes (pos 3) [])
    ∷ row "IfNot on +0" untyped (op 50 30 5 0) (30 holds 0 ∷ []) (completes (pos 7) [])
    ∷ row "IfNot on -0" untyped (op 50 30 5 0) (30 holds minus_zero ∷ []) (completes (pos 7) [])
    ∷ row "If jumps by -1" untyped (op 49 30 0xffff 0) (30 holds one ∷ []) (completes (pos 1) [])
    ∷ row "IfNot jumps by -2" untyped (op 50 30 0xfffe 0) (30 holds 0 ∷ []) (completes (pos 0) [])
    ∷ row "IfNot jumps below 0" untyped (op 50 30 0xfffd 0) (30 holds 0 ∷ []) (completes (negsuc 0) [])
    ∷ row "the third operand is not looked at" untyped (op 49 30 5 0xffff) (30 holds one ∷ []) (completes (pos 7) [])
    ∷ [])
    ++ (row "Goto" untyped (op 61 5 0 0) [] (completes (pos 7) [])
    ∷ row "Goto by 0" untyped (op 61 0 0 0) [] (completes (pos 2) [])
    ∷ row "Goto by 32,767" untyped (op 61 0x7fff 0 0) [] (completes (pos 32769) [])
    ∷ row "Goto by -1" untyped (op 61 0xffff 0 0) [] (completes (pos 1) [])
    ∷ row "Goto by -4" untyped (op 61 0xfffc 0 0) [] (completes (negsuc 1) [])
    ∷ row "Goto by -32,768" untyped (op 61 0x8000 0 0) [] (completes (negsuc 32765) [])
    ∷ row "Goto looks at no cell, and at no other operand" typed (op 61 39 0xffff 64) [] (completes (pos 41) [])
    ∷ [])

abbrev call_opcodes : List ℕ
call_opcodes = 51 ∷ 52 ∷ 53 ∷ 54 ∷ 55 ∷ 56 ∷ 57 ∷ 58 ∷ 59 ∷ []

-- "Return and Done copy three cells from the first operand", unchecked by type. "Call, 19: function 0; 20: no such function; 5 again; a builtin is then
-- handed over"; "16: type", "15: cell negative or not below the count" before these
abbrev entering : List Row
entering =
    (row "Done" typed (op 0 39 64 0xffff) [] (leaves 39) ∷ row "Return" typed (op 43 48 64 0xffff) [] (leaves 48) ∷ [])
    ++ of call_opcodes (λ o. row "Call" untyped (op o 30 0xffff 0xffff) (30 holds 1 ∷ []) (enters 1))
    ++ of call_opcodes (λ o. row "a builtin is then handed over" untyped (op o 30 0 0) (30 holds 2 ∷ []) (builtin 35))
    ++ of call_opcodes (λ o. row "R-1: rint of 0.5, done by the machine" untyped (op o 30 0 0) (30 holds 5 ∷ 4 holds 0x3f000000 ∷ []) (completes (pos 3) (1 holds 0x3f800000 ∷ [])))
    ++ of call_opcodes (λ o. row "its result is typed: cell 1 is a string" typed (op o 30 0 0) (30 holds 5 ∷ []) (refused 16))
    ++ of call_opcodes (λ o. row "19: function 0" untyped (op o 30 0 0) (30 holds 0 ∷ []) (refused 19))
    ++ (row "the builtin 1" untyped (op 51 30 0 0) (30 holds 4 ∷ []) (builtin 1)
    ∷ row "5 again" untyped (op 51 30 0 0) (30 holds 3 ∷ []) (refused 5)
    ∷ row "20: no such function" untyped (op 51 30 0 0) (30 holds 6 ∷ []) (refused 20)
    ∷ row "20: below 0" untyped (op 51 30 0 0) (30 holds 0xffffffff ∷ []) (refused 20)
    ∷ row "Call, 15: not below the count" untyped (op 51 64 0 0) [] (refused 15)
    ∷ row "Call, 15: cell negative" untyped (op 51 0xffff 0 0) [] (refused 15)
    ∷ row "Call, 16 before 15" typed (op 51 64 0 0) [] (refused 16)
    ∷ row "Call, 16 before 19" typed (op 51 39 0 0) (39 holds 0 ∷ []) (refused 16)
    ∷ [])

-- R-3: "Only opcode 60 and the other builtins still go to the host", with operands that are not looked at; "7: opcode"
abbrev host : List Row
host =
    row "goes to the host" typed (op 60 36 64 0xffff) [] (opcode 60)
    ∷ of (66 ∷ 67 ∷ 0x8000 ∷ 0xffff ∷ []) (λ o. row "again at fetch, 7: opcode" typed (op o 0 0 0) [] (refused 7))

-- ---- "rounded once per operation; a NaN made by arithmetic is stored as 7fc00000"; "MulV starts from +0 and adds three products in order"

abbrev rounding : List Row
rounding =
    (binary "AddF: 1 and half of its last place, to even" 6 one 0x33800000 (gives one)
    ∷ binary "AddF: up to even" 6 0x3f800001 0x33800000 (gives 0x3f800002)
    ∷ binary "AddF: too large" 6 0x7f7fffff 0x7f7fffff (gives 0x7f800000)
    ∷ binary "AddF: -0 and -0" 6 minus_zero minus_zero (gives minus_zero)
    ∷ binary "AddF: -0 and +0" 6 minus_zero 0 (gives 0)
    ∷ binary "SubF: 1 and a quarter of its last place below" 8 one 0x33000000 (gives one)
    ∷ binary "SubF: of equal floats" 8 one one (gives 0)
    ∷ binary "SubF: -0 and +0" 8 minus_zero 0 (gives minus_zero)
    ∷ binary "MulF: half the least normal float" 1 0x00800000 0x3f000000 (gives 0x00400000)
    ∷ binary "MulF: half the least float, to even" 1 1 0x3f000000 (gives 0)
    ∷ binary "MulF: the signs" 1 0xbf800000 0 (gives minus_zero)
    ∷ binary "Div: a third" 5 one three (gives 0x3eaaaaab)
    ∷ binary "Div: -1 by 0" 5 0xbf800000 0 (gives 0xff800000)
    ∷ [])
    ++ (binary_v "MulV: the products are rounded" 2 (vector 30 0x3f800800 0xbf801000 0) (vector 33 0x3f800800 one 0) (gives 0)
    ∷ binary_v "MulV: 16777216 and 1 make 16777216" 2 (vector 30 0x4b800000 one 0xcb800000) (vector 33 one one one) (gives 0)
    ∷ binary_v "MulV: in order" 2 (vector 30 0xcb800000 one 0x4b800000) (vector 33 one one one) (gives one)
    ∷ binary_v "MulV: the third last" 2 (vector 30 0x4b800000 0xcb800000 one) (vector 33 one one one) (gives one)
    ∷ binary_v "MulV: the first before it" 2 (vector 30 one 0x4b800000 0xcb800000) (vector 33 one one one) (gives 0)
    ∷ [])

-- "NaN to 0" and "saturating"
abbrev nans : List Row
nans =
    of (1 ∷ 5 ∷ 6 ∷ 8 ∷ []) (λ o. binary "a NaN, first" o 0xffc00000 one (gives nan))
    ++ of (1 ∷ 5 ∷ 6 ∷ 8 ∷ []) (λ o. binary "a NaN, second" o one 0xff812345 (gives nan))
    ++ (binary "infinity times 0" 1 0x7f800000 0 (gives nan)
    ∷ binary "infinity by infinity" 5 0x7f800000 0xff800000 (gives nan)
    ∷ binary "infinity and -infinity" 6 0x7f800000 0xff800000 (gives nan)
    ∷ binary "infinity less itself" 8 0x7f800000 0x7f800000 (gives nan)
    ∷ binary_v "MulV" 2 (vector 30 0 0xffc00000 0) (vector 33 one one one) (gives nan)
    ∷ binary_v "MulFV" 3 (vector 30 one 7 7) (vector 33 0xffc00000 one 0xff800001) (writes (vector 36 nan one nan))
    ∷ binary_v "MulVF" 4 (vector 30 one one one) (vector 33 0xffc00000 7 7) (writes (vector 36 nan nan nan))
    ∷ binary_v "AddV" 7 (vector 30 one 0xffc00000 one) (vector 33 one one 0xffc00000) (writes (vector 36 two nan nan))
    ∷ binary_v "SubV" 9 (vector 30 0xffc00000 one one) (vector 33 one one 0xffc00000) (writes (vector 36 nan 0 nan))
    ∷ binary "BitOr: NaN to 0" 65 nan three (gives three)
    ∷ binary "BitOr: saturating" 65 0xff800000 0 (gives 0xcf000000)
    ∷ binary "BitAnd: saturating" 64 0x7f800000 0x7f800000 (gives 0x4f000000)
    ∷ binary "BitAnd: of negative numbers" 64 0xbf800000 0xc0400000 (gives 0xc0400000)
    ∷ [])

-- ---- "access by access, 16: type": "Float and vector pass for each other; otherwise types must match; a cell without a definition passes"; "Bit 15 of the
-- type is the save flag". R-5: "Void definitions are passed over"

abbrev float_opcodes : List ℕ
float_opcodes = 1 ∷ 5 ∷ 6 ∷ 8 ∷ 10 ∷ 15 ∷ 20 ∷ 21 ∷ 22 ∷ 23 ∷ 62 ∷ 63 ∷ 64 ∷ 65 ∷ []

-- all but MulFV, of the opcodes with vectors
abbrev first_vector : List ℕ
first_vector = 2 ∷ 4 ∷ 7 ∷ 9 ∷ 11 ∷ 16 ∷ []

-- all but MulVF
abbrev second_vector : List ℕ
second_vector = 2 ∷ 3 ∷ 7 ∷ 9 ∷ 11 ∷ 16 ∷ []

-- for the cells without a definition, void, string, float, vector, entity, field, function, pointer, and float with the save flag
abbrev as_string : List ℕ
as_string = 0 ∷ 0 ∷ 0 ∷ 16 ∷ 16 ∷ 16 ∷ 16 ∷ 16 ∷ 16 ∷ 16 ∷ []

abbrev as_float : List ℕ
as_float = 0 ∷ 0 ∷ 16 ∷ 0 ∷ 0 ∷ 16 ∷ 16 ∷ 16 ∷ 16 ∷ 0 ∷ []

abbrev as_entity : List ℕ
as_entity = 0 ∷ 0 ∷ 16 ∷ 16 ∷ 16 ∷ 0 ∷ 16 ∷ 16 ∷ 16 ∷ 16 ∷ []

abbrev as_field : List ℕ
as_field = 0 ∷ 0 ∷ 16 ∷ 16 ∷ 16 ∷ 16 ∷ 0 ∷ 16 ∷ 16 ∷ 16 ∷ []

abbrev as_function : List ℕ
as_function = 0 ∷ 0 ∷ 16 ∷ 16 ∷ 16 ∷ 16 ∷ 16 ∷ 0 ∷ 16 ∷ 16 ∷ []

-- a Call of the functions 29, 30 and 54, which there are none of
abbrev as_called : List ℕ
as_called = 20 ∷ 20 ∷ 16 ∷ 16 ∷ 16 ∷ 16 ∷ 16 ∷ 20 ∷ 16 ∷ 16 ∷ []

abbrev first : ℕ → ℕ → Statement
first o a = op o a 33 33

abbrev second : ℕ → ℕ → Statement
second o b = op o 33 b 33

abbrev third : ℕ → ℕ → Statement
third o c = op o 33 33 c

abbrev source : ℕ → ℕ → Statement
source o a = op o a 33 0

abbrev destination : ℕ → ℕ → Statement
destination o b = op o 33 b 0

abbrev negated : ℕ → ℕ → Statement
negated o a = op o a 0 33

abbrev negation : ℕ → ℕ → Statement
negation o c = op o 33 0 c

abbrev accesses : List Row
accesses =
    (types "floats, first" float_opcodes first as_float
    ∷ types "floats, second" float_opcodes second as_float
    ∷ types "floats, destination" float_opcodes third as_float
    ∷ types "vectors, first; the float of MulFV" (3 ∷ first_vector) first as_float
    ∷ types "vectors, second; the float of MulVF" (4 ∷ second_vector) second as_float
    ∷ types "vectors, destination" (2 ∷ 3 ∷ 4 ∷ 7 ∷ 9 ∷ 11 ∷ 16 ∷ []) third as_float
    ∷ types "EqS, NeS, first" (12 ∷ 17 ∷ []) first as_string
    ∷ types "EqS, NeS, second" (12 ∷ 17 ∷ []) second as_string
    ∷ types "EqEnt, NeEnt, first" (13 ∷ 18 ∷ []) first as_entity
    ∷ types "EqEnt, NeEnt, second" (13 ∷ 18 ∷ []) second as_entity
    ∷ types "EqFnc, NeFnc, first" (14 ∷ 19 ∷ []) first as_function
    ∷ types "EqFnc, NeFnc, second" (14 ∷ 19 ∷ []) second as_function
    ∷ types "their destination" (12 ∷ 13 ∷ 14 ∷ 17 ∷ 18 ∷ 19 ∷ []) third as_float
    ∷ [])
    ++ (types "NotF, NotV" (44 ∷ 45 ∷ []) negated as_float
    ∷ types "NotS" (46 ∷ []) negated as_string
    ∷ types "NotEnt" (47 ∷ []) negated as_entity
    ∷ types "NotFnc" (48 ∷ []) negated as_function
    ∷ types "Not, destination" (44 ∷ 45 ∷ 46 ∷ 47 ∷ 48 ∷ []) negation as_float
    ∷ types "StoreF, StoreV, source" (31 ∷ 32 ∷ []) source as_float
    ∷ types "StoreF, StoreV, destination" (31 ∷ 32 ∷ []) destination as_float
    ∷ types "StoreS, source" (33 ∷ []) source as_string
    ∷ types "StoreS, destination" (33 ∷ []) destination as_string
    ∷ types "StoreEnt, source" (34 ∷ []) source as_entity
    ∷ types "StoreEnt, destination" (34 ∷ []) destination as_entity
    ∷ types "StoreFld, source" (35 ∷ []) source as_field
    ∷ types "StoreFld, destination" (35 ∷ []) destination as_field
    ∷ types "StoreFnc, source" (36 ∷ []) source as_function
    ∷ types "StoreFnc, destination" (36 ∷ []) destination as_function
    ∷ types "If, IfNot" (49 ∷ 50 ∷ []) source as_float
    ∷ types "Call" call_opcodes first as_called
    ∷ [])

-- ---- R-3: "Opcodes 24 to 29 read the field in the second operand of the entity in the first; 30 makes a pointer; 37 to 42 write the first operand through
-- the pointer in the second"

abbrev load_opcodes : List ℕ
load_opcodes = 24 ∷ 25 ∷ 26 ∷ 27 ∷ 28 ∷ 29 ∷ []

abbrev pointer_stores : List ℕ
pointer_stores = 37 ∷ 38 ∷ 39 ∷ 40 ∷ 41 ∷ 42 ∷ []

-- entity 1 in cell 40, this field in cell 41
abbrev of_entity1 : ℕ → List Cell
of_entity1 f = 40 holds 1 ∷ 41 holds f ∷ []

-- the last field is 104; field 104 of entity 1 is entity cell 209, its pointer 836
abbrev field_statements : List Row
field_statements =
    of (24 ∷ 26 ∷ 27 ∷ 28 ∷ 29 ∷ []) (λ o. row "Load: one cell" untyped (op o 40 41 50) (of_entity1 10) (writes (50 holds 1115 ∷ [])))
    ++ of (24 ∷ 26 ∷ 27 ∷ 28 ∷ 29 ∷ []) (λ o. row "Load: the last field of the last entity" untyped (op o 40 41 63) (of_entity1 104) (writes (63 holds 1209 ∷ [])))
    ++ of (24 ∷ 26 ∷ 27 ∷ 28 ∷ 29 ∷ []) (λ o. row "Load: over its own operand" untyped (op o 40 41 40) (of_entity1 10) (writes (40 holds 1115 ∷ [])))
    ++ of load_opcodes (λ o. row "Load: entity 2 of 2" untyped (op o 40 41 50) (40 holds 2 ∷ 41 holds 0 ∷ []) (refused 30))
    ++ of load_opcodes (λ o. row "Load: field 105 of 105" untyped (op o 40 41 50) (of_entity1 105) (refused 31))
    ++ of (37 ∷ 39 ∷ 40 ∷ 41 ∷ 42 ∷ []) (λ o. row "StoreP: one cell" untyped (op o 30 31 0) (31 holds 460 ∷ []) (writes_fields (115 holds 30 ∷ [])))
    ++ of (37 ∷ 39 ∷ 40 ∷ 41 ∷ 42 ∷ []) (λ o. row "StoreP: the last field of the last entity" untyped (op o 63 31 0) (31 holds 836 ∷ []) (writes_fields (209 holds 63 ∷ [])))
    ++ of (37 ∷ 39 ∷ 40 ∷ 41 ∷ 42 ∷ []) (λ o. row "StoreP: the pointer itself" untyped (op o 31 31 0) (31 holds 0 ∷ []) (writes_fields (0 holds 0 ∷ [])))
    ++ of pointer_stores (λ o. row "StoreP: past the last entity" untyped (op o 30 31 0) (31 holds 840 ∷ []) (refused 32))
    ++ of pointer_stores (λ o. row "StoreP: no multiple of 4" untyped (op o 30 31 0) (31 holds 462 ∷ []) (refused 32))
    ++ of pointer_stores (λ o. row "StoreP: a negative pointer" untyped (op o 30 31 0) (31 holds minus_zero ∷ []) (refused 32))
    ++ (row "LoadV: three cells" untyped (op 25 40 41 50) (of_entity1 10) (writes (vector 50 1115 1116 1117))
    ∷ row "LoadV: the last three" untyped (op 25 40 41 61) (of_entity1 102) (writes (vector 61 1207 1208 1209))
    ∷ row "LoadV: over its own operands" untyped (op 25 40 41 40) (of_entity1 10) (writes (vector 40 1115 1116 1117))
    ∷ row "LoadV: its third cell is the next entity's" untyped (op 25 40 41 50) (40 holds 0 ∷ 41 holds 103 ∷ []) (refused 31)
    ∷ row "StorePV: three cells" untyped (op 38 30 33 0) (33 holds 460 ∷ []) (writes_fields (vector 115 30 31 32))
    ∷ row "StorePV: the last three" untyped (op 38 61 33 0) (33 holds 828 ∷ []) (writes_fields (vector 207 61 62 63))
    ∷ row "StorePV: its third cell is the next entity's" untyped (op 38 30 33 0) (33 holds 412 ∷ []) (refused 31)
    ∷ row "Address: (entity times cells per entity, plus field) times 4" untyped (op 30 40 41 50) (of_entity1 10) (writes (50 holds 460 ∷ []))
    ∷ row "Address: entity 0, field 0" untyped (op 30 40 41 50) (40 holds 0 ∷ 41 holds 0 ∷ []) (writes (50 holds 0 ∷ []))
    ∷ row "Address: the last" untyped (op 30 40 41 50) (of_entity1 104) (writes (50 holds 836 ∷ []))
    ∷ row "Address: entity 2 of 2" untyped (op 30 40 41 50) (40 holds 2 ∷ 41 holds 105 ∷ []) (refused 30)
    ∷ row "Address: field 105 of 105" untyped (op 30 40 41 50) (of_entity1 105) (refused 31)
    ∷ [])
    ++ of load_opcodes (λ o. row "no longer handed over: Load" typed (op o 36 64 0xffff) [] (refused 16))
    ++ (row "no longer handed over: Address" typed (op 30 36 64 0xffff) [] (refused 16) ∷ [])
    ++ of pointer_stores (λ o. row "no longer handed over: StoreP" typed (op o 36 64 0xffff) [] (refused 18))

-- the same, where an access that passes leads to this refusal
abbrev passing : ℕ → List ℕ → List ℕ
passing n [] = []
passing n (zero ∷ xs) = n ∷ passing n xs
passing n (suc m ∷ xs) = suc m ∷ passing n xs

abbrev as_pointer : List ℕ
as_pointer = 0 ∷ 0 ∷ 16 ∷ 16 ∷ 16 ∷ 16 ∷ 16 ∷ 16 ∷ 0 ∷ 16 ∷ []

-- a Load and a StoreP of fields of entity 1: those that pass, and those that are refused 16
abbrev field_types : ℕ → ℕ → List ℕ → List ℕ → List Row
field_types load store pass fail =
    of pass (λ f. row "Load of a field of its type" untyped (op load 40 41 50) (of_entity1 f) (writes (50 holds (1105 + f) ∷ [])))
    ++ of pass (λ f. row "StoreP of a field of its type" untyped (op store 30 33 0) (33 holds ((105 + f) * 4) ∷ []) (writes_fields ((105 + f) holds 30 ∷ [])))
    ++ of fail (λ f. row "Load of a field of another type" untyped (op load 40 41 50) (of_entity1 f) (refused 16))
    ++ of fail (λ f. row "StoreP of a field of another type" untyped (op store 30 33 0) (33 holds ((105 + f) * 4) ∷ []) (refused 16))

-- "Typed accesses look up field definitions as `Entity::type_check` does, void ones passed over". An operand that passes leads to 30, since there is no
-- entity 33, or to 32, since 33, 29, 30 and 57 are no multiples of 4.
abbrev field_accesses : List Row
field_accesses =
    types "Load, Address, entity" (30 ∷ load_opcodes) first (passing 30 as_entity)
    ∷ types "Load, Address, field" (30 ∷ load_opcodes) second (passing 30 as_field)
    ∷ types "LoadF, LoadV, destination" (24 ∷ 25 ∷ []) third (passing 30 as_float)
    ∷ types "LoadS, destination" (26 ∷ []) third (passing 30 as_string)
    ∷ types "LoadEnt, destination" (27 ∷ []) third (passing 30 as_entity)
    ∷ types "LoadFld, destination" (28 ∷ []) third (passing 30 as_field)
    ∷ types "LoadFnc, destination" (29 ∷ []) third (passing 30 as_function)
    ∷ types "Address, destination" (30 ∷ []) third (passing 30 as_pointer)
    ∷ types "StorePF, StorePV, source" (37 ∷ 38 ∷ []) source (passing 32 as_float)
    ∷ types "StorePS, source" (39 ∷ []) source (passing 32 as_string)
    ∷ types "StorePEnt, source" (40 ∷ []) source (passing 32 as_entity)
    ∷ types "StorePFld, source" (41 ∷ []) source (passing 32 as_field)
    ∷ types "StorePFnc, source" (42 ∷ []) source (passing 32 as_function)
    ∷ types "StoreP, pointer" pointer_stores destination (passing 32 as_pointer)
    ∷ field_types 24 37 (31 ∷ 36 ∷ []) (30 ∷ 32 ∷ 33 ∷ 34 ∷ 35 ∷ 40 ∷ [])
    ++ field_types 25 38 [] (28 ∷ 29 ∷ 30 ∷ 31 ∷ 32 ∷ 33 ∷ 34 ∷ 35 ∷ 38 ∷ 39 ∷ 40 ∷ [])
    ++ field_types 26 39 (30 ∷ 40 ∷ []) (31 ∷ 32 ∷ 33 ∷ 34 ∷ 35 ∷ 36 ∷ [])
    ++ field_types 27 40 (32 ∷ []) (30 ∷ 31 ∷ 33 ∷ 34 ∷ 35 ∷ 36 ∷ 40 ∷ [])
    ++ field_types 28 41 (33 ∷ []) (30 ∷ 31 ∷ 32 ∷ 34 ∷ 35 ∷ 36 ∷ 40 ∷ [])
    ++ field_types 29 42 (34 ∷ []) (30 ∷ 31 ∷ 32 ∷ 33 ∷ 35 ∷ 36 ∷ 40 ∷ [])
    ++ (row "LoadV of a vector" untyped (op 25 40 41 50) (of_entity1 36) (writes (vector 50 1141 1142 1143))
    ∷ row "StorePV of a vector" untyped (op 38 30 33 0) (33 holds 564 ∷ []) (writes_fields (vector 141 30 31 32))
    ∷ row "Address: of a field of any type" untyped (op 30 40 41 50) (of_entity1 30) (writes (50 holds 540 ∷ []))
    ∷ [])

-- "A vector checks its first cell as vector, then each of its three as float": 38 has a string for its second cell, 37 for its third; NotV and StoreV too
abbrev vector_cells : List Row
vector_cells =
    refuse "second cell of the first" first_vector (λ o. op o 38 33 33) 16
    ++ refuse "third cell of the first" first_vector (λ o. op o 37 33 33) 16
    ++ refuse "second cell of the second" second_vector (λ o. op o 33 38 33) 16
    ++ refuse "third cell of the second" second_vector (λ o. op o 33 37 33) 16
    ++ refuse "second cell of the destination" (3 ∷ 4 ∷ 7 ∷ 9 ∷ []) (λ o. op o 33 33 38) 16
    ++ refuse "third cell of the destination" (3 ∷ 4 ∷ 7 ∷ 9 ∷ []) (λ o. op o 33 33 37) 16
    ++ refuse "not below the count: third cell of the first" first_vector (λ o. op o 62 33 33) 16
    ++ of first_vector (λ o. row "15: third cell of the first" untyped (op o 62 33 33) [] (refused 15))
    ++ of second_vector (λ o. row "15: third cell of the second" untyped (op o 33 62 33) [] (refused 15))
    ++ of (3 ∷ 4 ∷ 7 ∷ 9 ∷ []) (λ o. row "15: third cell of the destination" untyped (op o 33 33 62) [] (refused 15))
    ++ (row "the last vector" untyped (op 7 61 61 61) (vector 61 one two three) (writes (vector 61 two 0x40800000 0x40c00000))
    ∷ row "the float of MulFV is one cell" untyped (op 3 63 33 36) (63 holds one ∷ vector 33 one two three) (writes (vector 36 one two three))
    ∷ row "the float of MulVF is one cell" untyped (op 4 33 63 36) (63 holds one ∷ vector 33 one two three) (writes (vector 36 one two three))
    ∷ row "the destination of MulV is one cell" untyped (op 2 30 33 63) (vector 30 one 0 0 ++ vector 33 one 0 0) (writes (63 holds one ∷ []))
    ∷ row "the destination of NotV is one cell" untyped (op 45 30 0 63) (vector 30 0 0 0) (writes (63 holds one ∷ []))
    ∷ row "NotV, second cell" typed (op 45 38 0 33) [] (refused 16)
    ∷ row "NotV, third cell" typed (op 45 37 0 33) [] (refused 16)
    ∷ row "NotV, 15: third cell" untyped (op 45 62 0 33) [] (refused 15)
    ∷ [])

-- ---- "A typed access checks type, then address"; "Operand order is first, second, destination": 36 has a type that no opcode takes, 66 is no cell, 64 is
-- no cell and a string

abbrev three_operands : List ℕ
three_operands = float_opcodes ++ (2 ∷ 3 ∷ 4 ∷ 7 ∷ 9 ∷ 11 ∷ 16 ∷ []) ++ (13 ∷ 14 ∷ 18 ∷ 19 ∷ [])

abbrev orders : List Row
orders =
    refuse "first, then second" three_operands (λ o. op o 66 36 36) 15
    ++ refuse "first, then second" three_operands (λ o. op o 36 66 66) 16
    ++ refuse "second, then destination" three_operands (λ o. op o 33 66 36) 15
    ++ refuse "second, then destination" three_operands (λ o. op o 33 36 66) 16
    ++ refuse "destination" three_operands (λ o. op o 33 33 66) 15
    ++ refuse "cell negative: first" three_operands (λ o. op o 0xffff 33 33) 15
    ++ refuse "cell negative: second" three_operands (λ o. op o 33 0xffff 33) 15
    ++ refuse "cell negative: destination" three_operands (λ o. op o 33 33 0x8000) 15
    ++ refuse "type, then address" three_operands (λ o. op o 64 33 33) 16
    ++ refuse "type, then address: a float" float_opcodes (λ o. op o 65 33 33) 15

abbrev store_opcodes : List ℕ
store_opcodes = 31 ∷ 32 ∷ 33 ∷ 34 ∷ 35 ∷ 36 ∷ []

abbrev not_opcodes : List ℕ
not_opcodes = 44 ∷ 45 ∷ 46 ∷ 47 ∷ 48 ∷ []

abbrev orders_of_two : List Row
orders_of_two =
    refuse "Store: source, then destination" store_opcodes (λ o. op o 66 36 0) 15
    ++ refuse "Store: source, then destination" store_opcodes (λ o. op o 36 66 0) 16
    ++ refuse "Store: destination" store_opcodes (λ o. op o 33 66 0) 15
    ++ refuse "Store: source negative" store_opcodes (λ o. op o 0xffff 33 0) 15
    ++ refuse "Store: destination negative" store_opcodes (λ o. op o 33 0xffff 0) 15
    ++ refuse "Store: type, then address" (31 ∷ 32 ∷ 34 ∷ 35 ∷ 36 ∷ []) (λ o. op o 64 33 0) 16
    ++ refuse "Not: operand, then destination" not_opcodes (λ o. op o 66 0 36) 15
    ++ refuse "Not: operand, then destination" not_opcodes (λ o. op o 36 0 66) 16
    ++ refuse "Not: destination" not_opcodes (λ o. op o 33 0 66) 15
    ++ refuse "Not: operand negative" not_opcodes (λ o. op o 0xffff 0 36) 15
    ++ refuse "Not: destination negative" not_opcodes (λ o. op o 33 0 0xffff) 15
    ++ refuse "If, IfNot: 15" (49 ∷ 50 ∷ []) (λ o. op o 66 5 0) 15
    ++ refuse "If, IfNot: cell negative" (49 ∷ 50 ∷ []) (λ o. op o 0xffff 5 0) 15
    ++ refuse "If, IfNot: type, then address" (49 ∷ 50 ∷ []) (λ o. op o 64 5 0) 16

-- ---- "18: third operand of a Store (31 to 36) or second of a Not isn't 0; then, access by access"

abbrev unused_operands : List Row
unused_operands =
    refuse "18: third operand of a Store" store_opcodes (λ o. op o 30 33 1) 18
    ++ refuse "18: third operand of a Store, before 16" store_opcodes (λ o. op o 36 36 0xffff) 18
    ++ refuse "18: third operand of a Store, before 15" store_opcodes (λ o. op o 0xffff 66 33) 18
    ++ refuse "18: second of a Not" not_opcodes (λ o. op o 30 1 33) 18
    ++ refuse "18: second of a Not, before 16" not_opcodes (λ o. op o 36 0xffff 36) 18
    ++ refuse "18: second of a Not, before 15" not_opcodes (λ o. op o 0xffff 33 66) 18
    ++ of (33 ∷ 34 ∷ 35 ∷ []) (λ o. row "18, before 17" typed (op o 30 33 1) (30 holds minus_zero ∷ []) (refused 18))
    ++ (row "18, before 17: NotEnt" typed (op 47 30 1 33) (30 holds minus_zero ∷ []) (refused 18)
    ∷ row "18: StoreV to 1 to 27" typed (op 32 30 1 1) [] (refused 18)
    ∷ row "18: NotS of operand 0" untyped (op 46 0 1 33) [] (refused 18)
    ∷ [])

-- ---- "17: negative entity or field read, or negative string in StoreS", in the access, after 16 and 15

abbrev negatives : List Row
negatives =
    of (33 ∷ 34 ∷ 35 ∷ []) (λ o. row "17: Store" untyped (op o 30 31 0) (30 holds minus_zero ∷ []) (refused 17))
    ++ of (33 ∷ 34 ∷ 35 ∷ []) (λ o. row "17: Store of -1" untyped (op o 30 31 0) (30 holds 0xffffffff ∷ []) (refused 17))
    ++ of (33 ∷ 34 ∷ 35 ∷ []) (λ o. row "not of 7fffffff" untyped (op o 30 31 0) (30 holds 0x7fffffff ∷ []) (writes (31 holds 0x7fffffff ∷ [])))
    ++ of (13 ∷ 18 ∷ []) (λ o. row "17: EqEnt, NeEnt, first" untyped (op o 30 33 36) (30 holds minus_zero ∷ []) (refused 17))
    ++ of (13 ∷ 18 ∷ []) (λ o. row "17: EqEnt, NeEnt, second" untyped (op o 30 33 36) (33 holds minus_zero ∷ []) (refused 17))
    ++ of (13 ∷ 18 ∷ []) (λ o. row "17 of the first before 16 of the second" typed (op o 30 36 36) (30 holds minus_zero ∷ []) (refused 17))
    ++ of (13 ∷ 18 ∷ []) (λ o. row "16 of the first before 17 of the second" typed (op o 36 33 36) (33 holds minus_zero ∷ []) (refused 16))
    ++ of (13 ∷ 18 ∷ []) (λ o. row "17 of the second before 16 of the destination" typed (op o 30 33 36) (33 holds minus_zero ∷ []) (refused 17))
    ++ of (33 ∷ 34 ∷ 35 ∷ []) (λ o. row "17 of the source before 15 of the destination" typed (op o 30 66 0) (30 holds minus_zero ∷ []) (refused 17))
    ++ of (33 ∷ 34 ∷ 35 ∷ []) (λ o. row "17 of the source before 16 of the destination" typed (op o 30 36 0) (30 holds minus_zero ∷ []) (refused 17))
    ++ of (33 ∷ 34 ∷ 35 ∷ []) (λ o. row "16 before 17" typed (op o 42 33 0) (42 holds minus_zero ∷ []) (refused 16))
    ++ (row "17: NotEnt" untyped (op 47 30 0 36) (30 holds minus_zero ∷ []) (refused 17)
    ∷ row "17 before 16 of the destination: NotEnt" typed (op 47 30 0 36) (30 holds minus_zero ∷ []) (refused 17)
    ∷ row "16 before 17: NotEnt" typed (op 47 42 0 33) (42 holds minus_zero ∷ []) (refused 16)
    ∷ row "a destination is not read" untyped (op 34 30 31 0) (31 holds minus_zero ∷ []) (writes (31 holds 30 ∷ []))
    ∷ row "17: a typed entity" typed (op 34 48 33 0) (48 holds minus_zero ∷ []) (refused 17)
    ∷ row "not of a function: StoreFnc" typed (op 36 54 33 0) (54 holds minus_zero ∷ []) (writes (33 holds minus_zero ∷ []))
    ∷ row "not of a float: StoreF" typed (op 31 42 33 0) (42 holds minus_zero ∷ []) (writes (33 holds minus_zero ∷ []))
    ∷ row "not of a vector: StoreV" typed (op 32 45 33 0) (45 holds 0xbf800000 ∷ []) (writes (vector 33 0xbf800000 46 47))
    ∷ [])

-- ---- "EqS, NeS and NotS refuse negative operands 15 before any type check"; R-4: "Equal operands of EqS and NeS are still answered unread"; NotS is 1.0 "still
-- for operand 0", which is checked all the same; 33 "in each access after type and address"

abbrev string_opcodes : List ℕ
string_opcodes = 12 ∷ 17 ∷ []

abbrev equal_operands : (ℕ → Statement) → List Row
equal_operands st =
    row "count as equal: EqS" typed (st 12) [] (writes (33 holds one ∷ [])) ∷ row "count as equal: NeS" typed (st 17) [] (writes (33 holds 0 ∷ [])) ∷ []

abbrev strings : List Row
strings =
    refuse "first negative" string_opcodes (λ o. op o 0xffff 36 36) 15
    ++ refuse "second negative, before the first one's type" string_opcodes (λ o. op o 36 0xffff 36) 15
    ++ refuse "both negative" string_opcodes (λ o. op o 0xffff 0x8000 33) 15
    ++ refuse "equal operands that are negative" string_opcodes (λ o. op o 0xffff 0xffff 33) 15
    ++ refuse "equal operands that are -32,768" string_opcodes (λ o. op o 0x8000 0x8000 33) 15
    ++ equal_operands (λ o. op o 36 36 33)
    ++ equal_operands (λ o. op o 66 66 33)
    ++ equal_operands (λ o. op o 0 0 33)
    ++ equal_operands (λ o. op o 0x7fff 0x7fff 33)
    ++ refuse "equal operands: 16 of the destination" string_opcodes (λ o. op o 36 36 39) 16
    ++ refuse "equal operands: 15 of the destination" string_opcodes (λ o. op o 36 36 66) 15
    ++ refuse "first, then second" string_opcodes (λ o. op o 66 36 36) 15
    ++ refuse "first, then second" string_opcodes (λ o. op o 36 66 66) 16
    ++ refuse "second, then destination" string_opcodes (λ o. op o 33 66 36) 15
    ++ refuse "second, then destination" string_opcodes (λ o. op o 33 36 66) 16
    ++ refuse "destination negative, after 16" string_opcodes (λ o. op o 33 36 0xffff) 16
    ++ refuse "destination negative" string_opcodes (λ o. op o 33 34 0xffff) 15
    ++ refuse "type, then address" string_opcodes (λ o. op o 33 65 33) 16
    ++ refuse "type, then address: a string" string_opcodes (λ o. op o 33 64 33) 15
    ++ of string_opcodes (λ o. row "16 of the first before its 33" typed (op o 36 33 33) (36 holds 64 ∷ []) (refused 16))
    ++ of string_opcodes (λ o. row "33 of the first before 16 of the second" typed (op o 33 36 33) (33 holds 64 ∷ []) (refused 33))
    ++ of string_opcodes (λ o. row "33 of the first before 15 of the second" typed (op o 33 66 33) (33 holds 64 ∷ []) (refused 33))
    ++ of string_opcodes (λ o. row "16 of the second before its 33" typed (op o 33 36 33) (36 holds 64 ∷ []) (refused 16))
    ++ of string_opcodes (λ o. row "33 of the second before 16 of the destination" typed (op o 33 34 36) (34 holds 64 ∷ []) (refused 33))
    ++ of string_opcodes (λ o. row "33 of the second before 15 of the destination" typed (op o 33 34 66) (34 holds 64 ∷ []) (refused 33))
    ++ of string_opcodes (λ o. row "negative second before 33 of the first" typed (op o 33 0xffff 33) (33 holds 64 ∷ []) (refused 15))
    ++ (row "18 before 33: NotS" untyped (op 46 30 1 36) (30 holds 64 ∷ []) (refused 18)
    ∷ row "16 before 33: NotS" typed (op 46 42 0 33) (42 holds 64 ∷ []) (refused 16)
    ∷ row "33 before 16 of the destination: NotS" typed (op 46 30 0 36) (30 holds 64 ∷ []) (refused 33)
    ∷ row "33 before 15 of the destination: NotS" typed (op 46 30 0 66) (30 holds 64 ∷ []) (refused 33)
    ∷ row "33: NotS of operand 0" untyped (op 46 0 0 36) (0 holds 64 ∷ []) (refused 33)
    ∷ row "StoreS of 64 is no comparison" untyped (op 33 30 36 0) (30 holds 64 ∷ []) (writes (36 holds 64 ∷ []))
    ∷ row "NotS gives 1.0 for operand 0" untyped (op 46 0 0 36) (0 holds 7 ∷ []) yes
    ∷ row "NotS: operand 0 is still checked" typed (op 46 0 0 33) [] (refused 16)
    ∷ row "NotS: another operand" untyped (op 46 1 0 36) (1 holds 7 ∷ []) no
    ∷ row "NotS: operand 0, 15 of the destination" untyped (op 46 0 0 64) [] (refused 15)
    ∷ [])

-- ---- "StoreV goes cell by cell, source before destination, each typed as float; where the destination is 1 to 27 all three, source and destination, are
-- checked by address alone"

abbrev vector_stores : List Row
vector_stores =
    (row "source before destination, which is no cell" typed (op 32 36 66 0) [] (refused 16)
    ∷ row "source before destination" typed (op 32 66 36 0) [] (refused 15)
    ∷ row "cell by cell: the first destination before the second source" typed (op 32 38 66 0) [] (refused 15)
    ∷ row "cell by cell: the second source before the second destination" typed (op 32 62 63 0) [] (refused 16)
    ∷ row "cell by cell: the second destination before the third source" untyped (op 32 62 63 0) [] (refused 15)
    ∷ row "each typed as float: the second source" typed (op 32 38 33 0) [] (refused 16)
    ∷ row "each typed as float: the third source" typed (op 32 37 33 0) [] (refused 16)
    ∷ row "each typed as float: the second destination" typed (op 32 30 38 0) [] (refused 16)
    ∷ row "each typed as float: the third destination" typed (op 32 30 37 0) [] (refused 16)
    ∷ row "the third source, 15" untyped (op 32 62 33 0) [] (refused 15)
    ∷ row "the third destination, 15" untyped (op 32 33 62 0) [] (refused 15)
    ∷ row "the last cells" untyped (op 32 61 30 0) [] (writes (vector 30 61 62 63))
    ∷ row "to the last cells" untyped (op 32 30 61 0) [] (writes (vector 61 30 31 32))
    ∷ row "downwards" untyped (op 32 41 40 0) [] (writes (vector 40 41 42 43))
    ∷ [])
    ++ (row "to 0: typed" typed (op 32 30 0 0) [] (refused 16)
    ∷ row "to 1" typed (op 32 30 1 0) [] (writes (vector 1 30 31 32))
    ∷ row "to 4" typed (op 32 30 4 0) [] (writes (vector 4 30 31 32))
    ∷ row "to 26, 27 and 28, of which the last two have types" typed (op 32 30 26 0) [] (writes (vector 26 30 31 32))
    ∷ row "to 27" typed (op 32 30 27 0) [] (writes (vector 27 30 31 32))
    ∷ row "to 28: typed" typed (op 32 30 28 0) [] (refused 16)
    ∷ row "to 29" typed (op 32 32 29 0) [] (writes (vector 29 32 33 34))
    ∷ row "to 1, source of another type" typed (op 32 39 1 0) [] (writes (vector 1 39 40 41))
    ∷ row "to 27, second source of another type" typed (op 32 38 27 0) [] (writes (vector 27 38 39 40))
    ∷ row "to 27, third source of another type" typed (op 32 37 27 0) [] (writes (vector 27 37 38 39))
    ∷ row "to 1: 15, not 16" typed (op 32 64 1 0) [] (refused 15)
    ∷ row "to 1: the third source, 15" typed (op 32 62 1 0) [] (refused 15)
    ∷ row "to 1: source negative" typed (op 32 0xffff 1 0) [] (refused 15)
    ∷ [])

-- ---- one theorem of all the rows, from one for each group: a check of all of them at once would take the memory of all

abbrev pub rows : List Row
rows =
    (arithmetic ++ comparisons ++ nots ++ stores ++ jumps ++ entering ++ host)
    ++ (rounding ++ nans)
    ++ accesses
    ++ (field_statements ++ field_accesses)
    ++ vector_cells
    ++ orders
    ++ (orders_of_two ++ unused_operands ++ negatives ++ strings ++ vector_stores)

-- all that a row computes with
unfoldable computing : Unit {0}
unfolding judge builtin_number
    Ieee.of_bits Ieee.to_bits Ieee.add Ieee.sub Ieee.mul Ieee.div Ieee.eq Ieee.ne Ieee.le Ieee.lt Ieee.round Ieee.to_signed Ieee.of_int
    lookup scalar passes signed cell_of cell_access vector_access access read_access up_to_zero same_text text_access
    field_cell_access field_access value_moved loads_effect addresses_effect stores_p_effect
    shape_of floats_effect values_effect vector_result vectors_effect vectors_to_float_effect strings_effect negates_effect negates_v_effect negates_s_effect
    stores_effect stores_v_effect branches_do rounded absolute rounding_of rounding_effect call_of call_does fetch_conditions execute does_at
computing = tt

record Stand (rows : List Row) : Type 0 where
  all_stand : T (all rows)

infixr 60 ◌before◌
◌before◌ : {a b : List Row} → Stand a → Stand b → Stand (a ++ b)
◌before◌ {a} {b} h k = record { all_stand = go a h.all_stand }
  where
    if_stands : (a : List Row) (x : Bool) → (T (all a) → T (all (a ++ b))) → T (x && all a) → T (x && all (a ++ b))
    if_stands a true rest h = rest h
    if_stands a false rest h = h

    go : (a : List Row) → T (all a) → T (all (a ++ b))
    go [] h = k.all_stand
    go (r ∷ a) h = if_stands a (stands r) (go a) h

opcodes_stand : Stand (arithmetic ++ comparisons ++ nots ++ stores ++ jumps ++ entering ++ host)
unfolding computing
opcodes_stand = record { all_stand = tt }

floats_stand : Stand (rounding ++ nans)
unfolding computing
floats_stand = record { all_stand = tt }

accesses_stand : Stand accesses
unfolding computing
accesses_stand = record { all_stand = tt }

fields_stand : Stand (field_statements ++ field_accesses)
unfolding computing
fields_stand = record { all_stand = tt }

vectors_stand : Stand vector_cells
unfolding computing
vectors_stand = record { all_stand = tt }

orders_stand : Stand orders
unfolding computing
orders_stand = record { all_stand = tt }

operands_stand : Stand (orders_of_two ++ unused_operands ++ negatives ++ strings ++ vector_stores)
unfolding computing
operands_stand = record { all_stand = tt }

rows_stand : Stand rows
rows_stand = opcodes_stand before floats_stand before accesses_stand before fields_stand before vectors_stand before orders_stand before operands_stand

pub statements_stand : T (all rows)
statements_stand = rows_stand.all_stand
