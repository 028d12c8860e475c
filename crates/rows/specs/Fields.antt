-- ENTITY FIELDS, document 02's R-3: worked cases, as rows of one table that is computed from the definition. Each row starts from the bytes of a file with
-- 64 cells and 105 cells per entity, and a load with two entities, and goes on by the operations that a host calls. (One group has 107 cells per entity and
-- three entities.) Of each of the three forms of statement, Load, Address and StoreP, every refusal is met alone, and every two neighbours in the order of
-- checks in one statement, which is refused with the earlier number.
use Rattle.std.specs.Prelude.{ℕ, ◌+◌, List, [], ◌∷◌, ◌++◌, ℤ, pos, negsuc, set, take, drop, replicate, T}
use Rattle.definition.specs.declared.Statement.{Statement}
use Rattle.definition.specs.declared.Definition.{Definition}
use Rattle.definition.specs.declared.FunctionDef.{FunctionDef}
use Rattle.definition.specs.Checks.{judge, refused, accepted}
use Rattle.definition.specs.File.{Contents, standard}
use Rattle.definition.specs.Cells.{void, string, float, vector, entity, field, function, pointer}
use Rattle.definition.specs.Statements.{addresses_effect}
use Rattle.definition.specs.Machine.{with_entities}
use Rattle.definition.specs.Load.{load, program_of}
use Rattle.definition.specs.Starred.{assembled, op, return, call, fn, define, plain, numbers, Seen, and_then, Scenario, ◌and◌, state, cells, enter, complete, run_by, carry, every_operation}
use Rattle.definition.specs.Starred.{Row, row, all, computing}

-- ---- files and entities

-- a cell and its content
infix 70 ◌holds◌
pub data Cell : Type 0 where
  ◌holds◌ : ℕ → ℕ → Cell

abbrev with : List Cell → List ℕ → List ℕ
with [] cells = cells
with (a holds x ∷ given) cells = with given (set cells a x)

-- from statement 1 and function 1 on; 64 cells, each with its own number in it, but these
abbrev contents : List Definition → List Definition → List Statement → List FunctionDef → List Cell → Contents
contents globals fields statements functions given =
    record {
      statements = op 0 0 0 0 ∷ statements;
      globaldefs = globals;
      fielddefs = fields;
      functions = fn 0 0 0 0 [] ∷ functions;
      strings = 0 ∷ [];
      globals = with given (numbers 64 0);
      entityfields = 105;
    }

-- a load with so many entities, lent so many cells, a saved store of so many and these entity cells, and what is seen after it
abbrev loading : Contents → ℤ → ℕ → ℕ → List ℕ → Scenario → Seen
loading k n lent store entities rest =
    let file = assembled k in
    and_then (load standard file n (replicate lent 0xffffffff) (replicate store 0) entities) (rest (program_of file))

-- the entity cells of two entities and two lent cells more, each with 1,000 and its own number in it, but these
abbrev lent_with : List Cell → List ℕ
lent_with given = with given (numbers 212 1000)

-- with two entities, and two cells more than the file has
abbrev from : Contents → List Cell → Scenario → Seen
from k given = loading k (pos 2) 66 2048 (lent_with given)

-- n entity cells from a on
abbrev fields : ℕ → ℕ → Scenario
fields n a P c = accepted (take n (drop a c.entities))

-- the number of entities that the state has
abbrev number : Scenario
number P c = accepted (c.state.entity_count ∷ [])

-- statement 1, in function 1, with these global and field definitions, cells and entity cells
abbrev after : List Definition → List Definition → Statement → List Cell → List Cell → Scenario → Seen
after globals fields st given lent rest = from (contents globals fields (st ∷ []) (plain ∷ []) given) lent (enter 1 (complete rest))

-- ---- the load

-- a file with nothing but statement 0 and function 0
abbrev least : Contents
least = contents [] [] [] [] []

abbrev loads : List Row
loads =
    row "their number given at load and kept in the state" (loading least (pos 2) 64 2048 (numbers 210 1000) (number and state)) (accepted (2 ∷ 0 ∷ 0 ∷ 0 ∷ 0 ∷ []))
    ∷ row "no entities, and no entity cells" (loading least (pos 0) 64 2048 [] number) (accepted (0 ∷ []))
    ∷ row "13: more than 600 entities" (loading least (pos 601) 64 2048 [] number) (refused 13)
    ∷ row "13: a negative number of entities" (loading least (negsuc 0) 64 2048 [] number) (refused 13)
    ∷ row "13: lent entity cells too few" (loading least (pos 2) 64 2048 (numbers 209 1000) number) (refused 13)
    ∷ row "13: none lent" (loading least (pos 1) 64 2048 [] number) (refused 13)
    ∷ row "13, after 12: cells" (loading least (pos 601) 63 2048 [] number) (refused 12)
    ∷ row "13, after 12: saved store" (loading least (negsuc 0) 64 2047 [] number) (refused 12)
    ∷ row "13, after 11" (loading (record { statements = []; globaldefs = []; fielddefs = []; functions = []; strings = []; globals = numbers 64 0; entityfields = 104 }) (pos 601) 64 2048 [] number) (refused 11)
    ∷ row "untouched, by a load too" (from least (209 holds 7 ∷ []) (fields 212 0)) (accepted (numbers 209 1000 ++ (7 ∷ 1210 ∷ 1211 ∷ [])))
    ∷ []

-- ---- Load: the entity is in cell 28, the field in cell 29, the destination is cell 30

abbrev in_entity : ℕ → ℕ → List Cell
in_entity n f = 28 holds n ∷ 29 holds f ∷ []

abbrev load24 : ℕ → Statement
load24 o = op o 28 29 30

-- with field 10 of entity 1, which is entity cell 115
abbrev load_after : List Definition → List Definition → Statement → List Cell → Seen
load_after globals fields st lent = after globals fields st (in_entity 1 10) lent (cells 1 30)

-- "Opcodes 24 to 29 read the field in the second operand of the entity in the first"
abbrev load_rows : List Row
load_rows =
    row "LoadF" (after [] [] (load24 24) (in_entity 1 10) [] (state and cells 4 29)) (accepted (2 ∷ 1 ∷ 1 ∷ 0 ∷ 10 ∷ 1115 ∷ 31 ∷ 32 ∷ []))
    ∷ row "LoadV" (after [] [] (load24 25) (in_entity 1 10) [] (cells 5 29)) (accepted (10 ∷ 1115 ∷ 1116 ∷ 1117 ∷ 33 ∷ []))
    ∷ row "LoadS" (load_after [] [] (load24 26) []) (accepted (1115 ∷ []))
    ∷ row "LoadEnt" (load_after [] [] (load24 27) []) (accepted (1115 ∷ []))
    ∷ row "LoadFld" (load_after [] [] (load24 28) []) (accepted (1115 ∷ []))
    ∷ row "LoadFnc" (load_after [] [] (load24 29) []) (accepted (1115 ∷ []))
    ∷ row "entity 0, field 0" (after [] [] (load24 24) (in_entity 0 0) [] (cells 1 30)) (accepted (1000 ∷ []))
    ∷ row "the last field of the last entity" (after [] [] (load24 24) (in_entity 1 104) [] (cells 1 30)) (accepted (1209 ∷ []))
    ∷ row "a vector at the last cells of entity 0" (after [] [] (load24 25) (in_entity 0 102) [] (cells 3 30)) (accepted (1102 ∷ 1103 ∷ 1104 ∷ []))
    ∷ row "a vector at the last cells of the last entity" (after [] [] (load24 25) (in_entity 1 102) [] (cells 3 30)) (accepted (1207 ∷ 1208 ∷ 1209 ∷ []))
    ∷ row "a Load writes no field" (after [] [] (load24 25) (in_entity 1 10) [] (fields 4 114)) (accepted (1114 ∷ 1115 ∷ 1116 ∷ 1117 ∷ []))
    ∷ row "a NaN's bits" (load_after [] [] (load24 24) (115 holds 0xff800001 ∷ [])) (accepted (0xff800001 ∷ []))
    ∷ row "a negative function" (load_after [] [] (load24 29) (115 holds 0xffffffff ∷ [])) (accepted (0xffffffff ∷ []))
    ∷ row "negative components" (after [] [] (load24 25) (in_entity 1 10) (115 holds 0x80000000 ∷ 116 holds 0xbf800000 ∷ 117 holds 0xffffffff ∷ []) (cells 4 30))
    (accepted (0x80000000 ∷ 0xbf800000 ∷ 0xffffffff ∷ 33 ∷ []))
    ∷ row "a destination of 1 to 27" (after (define string 1 ∷ []) [] (op 26 28 29 1) (in_entity 1 10) [] (cells 2 1)) (accepted (1115 ∷ 2 ∷ []))
    ∷ []

-- each refusal alone
abbrev load_refusals : List Row
load_refusals =
    row "16: the entity's cell" (load_after (define float 28 ∷ []) [] (load24 26) []) (refused 16)
    ∷ row "15: the entity's cell" (load_after [] [] (op 26 66 29 30) []) (refused 15)
    ∷ row "15: the entity's cell, negative" (load_after [] [] (op 26 0xffff 29 30) []) (refused 15)
    ∷ row "17: a negative entity" (after [] [] (load24 26) (in_entity 0x80000000 10) [] state) (refused 17)
    ∷ row "16: the field's cell" (load_after (define entity 29 ∷ []) [] (load24 26) []) (refused 16)
    ∷ row "15: the field's cell" (load_after [] [] (op 26 28 66 30) []) (refused 15)
    ∷ row "17: a negative field" (after [] [] (load24 26) (in_entity 1 0xffffffff) [] state) (refused 17)
    ∷ row "16: the destination" (load_after (define float 30 ∷ []) [] (load24 26) []) (refused 16)
    ∷ row "15: the destination" (load_after [] [] (op 26 28 29 66) []) (refused 15)
    ∷ row "16: a destination's third cell" (load_after (define string 32 ∷ []) [] (load24 25) []) (refused 16)
    ∷ row "15: a destination's third cell" (load_after [] [] (op 25 28 29 62) []) (refused 15)
    ∷ row "16: a destination of 1 to 27" (load_after (define float 1 ∷ []) [] (op 26 28 29 1) []) (refused 16)
    ∷ row "16: a vector's destination of 1 to 27, unlike StoreV's" (load_after (define string 25 ∷ []) [] (op 25 28 29 25) []) (refused 16)
    ∷ row "16: its third cell" (load_after (define string 27 ∷ []) [] (op 25 28 29 25) []) (refused 16)
    ∷ row "30: an entity not below the count" (after [] [] (load24 26) (in_entity 2 10) [] state) (refused 30)
    ∷ row "30: the greatest entity" (after [] [] (load24 26) (in_entity 0x7fffffff 10) [] state) (refused 30)
    ∷ row "16: by field definition" (load_after [] (define float 10 ∷ []) (load24 26) []) (refused 16)
    ∷ row "31: a field cell not below the cells per entity" (after [] [] (load24 26) (in_entity 1 105) [] state) (refused 31)
    ∷ row "31: the next entity's field" (after [] [] (load24 26) (in_entity 0 105) [] state) (refused 31)
    ∷ row "31, not 16: field 65,536 + 10 is not field 10" (after [] (define float 10 ∷ []) (load24 26) (in_entity 1 0x1000a) [] state) (refused 31)
    ∷ row "31: a vector's third cell" (after [] [] (load24 25) (in_entity 0 103) [] state) (refused 31)
    ∷ row "31: a vector's second cell" (after [] [] (load24 25) (in_entity 0 104) [] state) (refused 31)
    ∷ row "16: a vector's second cell" (load_after [] (define string 11 ∷ []) (load24 25) []) (refused 16)
    ∷ row "16: a vector's third cell" (load_after [] (define entity 12 ∷ []) (load24 25) []) (refused 16)
    ∷ row "17: a negative string moved" (load_after [] [] (load24 26) (115 holds 0x80000000 ∷ [])) (refused 17)
    ∷ row "17: a negative entity moved" (load_after [] [] (load24 27) (115 holds 0x80000000 ∷ [])) (refused 17)
    ∷ row "17: a negative field moved" (load_after [] [] (load24 28) (115 holds 0xffffffff ∷ [])) (refused 17)
    ∷ []

-- two at once. The lent cells 64 and 65, which the file does not have, hold -1
abbrev load_order : List Row
load_order =
    row "16 of the entity before its 15" (load_after (define string 64 ∷ []) [] (op 26 64 29 30) []) (refused 16)
    ∷ row "15 of the entity before its 17" (load_after [] [] (op 26 64 29 30) []) (refused 15)
    ∷ row "17 of the entity before 16 of the field" (after (define string 29 ∷ []) [] (load24 26) (in_entity 0xffffffff 10) [] state) (refused 17)
    ∷ row "16 of the field before its 15" (load_after (define string 64 ∷ []) [] (op 26 28 64 30) []) (refused 16)
    ∷ row "15 of the field before its 17" (load_after [] [] (op 26 28 64 30) []) (refused 15)
    ∷ row "17 of the field before 16 of the destination" (after (define float 30 ∷ []) [] (load24 26) (in_entity 1 0xffffffff) [] state) (refused 17)
    ∷ row "16 of the destination before its 15" (load_after (define float 64 ∷ []) [] (op 26 28 29 64) []) (refused 16)
    ∷ row "15 of the destination before 30" (after [] [] (op 26 28 29 64) (in_entity 2 10) [] state) (refused 15)
    ∷ row "30 before 16 by field definition" (after [] (define float 10 ∷ []) (load24 26) (in_entity 2 10) [] state) (refused 30)
    ∷ row "30 before 31" (after [] [] (load24 26) (in_entity 2 105) [] state) (refused 30)
    ∷ row "16 by field definition before 31" (after [] (define float 105 ∷ []) (load24 26) (in_entity 1 105) [] state) (refused 16)
    ∷ row "cell by cell: 31 of the first before 16 of the second" (after [] (define string 106 ∷ []) (load24 25) (in_entity 1 105) [] state) (refused 31)
    ∷ row "cell by cell: 16 of the second before 31 of the third" (after [] (define string 104 ∷ []) (load24 25) (in_entity 0 103) [] state) (refused 16)
    ∷ row "cell by cell: 31 of the second before 16 of the third" (after [] (define string 106 ∷ []) (load24 25) (in_entity 0 104) [] state) (refused 31)
    ∷ row "16 by field definition before 17 of what is moved" (load_after [] (define float 10 ∷ []) (load24 26) (115 holds 0xffffffff ∷ [])) (refused 16)
    ∷ row "31 before 17 of what is moved" (after [] [] (load24 26) (in_entity 0 105) (105 holds 0xffffffff ∷ []) state) (refused 31)
    ∷ []

-- ---- Address: the same, and the pointer goes to cell 30

abbrev address : Statement
address = op 30 28 29 30

-- "A pointer, its cell typed 7, is (entity times cells per entity, plus field) times 4"
abbrev address_rows : List Row
address_rows =
    row "(1 * 105 + 10) * 4" (after [] [] address (in_entity 1 10) [] (state and cells 3 29)) (accepted (2 ∷ 1 ∷ 1 ∷ 0 ∷ 10 ∷ 460 ∷ 31 ∷ []))
    ∷ row "entity 0, field 0" (after [] [] address (in_entity 0 0) [] (cells 1 30)) (accepted (0 ∷ []))
    ∷ row "entity 0, field 1" (after [] [] address (in_entity 0 1) [] (cells 1 30)) (accepted (4 ∷ []))
    ∷ row "entity 1, field 0" (after [] [] address (in_entity 1 0) [] (cells 1 30)) (accepted (420 ∷ []))
    ∷ row "the last field of the last entity" (after [] [] address (in_entity 1 104) [] (cells 1 30)) (accepted (836 ∷ []))
    ∷ row "to a cell typed 7" (after (define pointer 30 ∷ []) [] address (in_entity 1 10) [] (cells 1 30)) (accepted (460 ∷ []))
    ∷ row "to a cell void alone, which has no type" (after (define void 30 ∷ []) [] address (in_entity 1 10) [] (cells 1 30)) (accepted (460 ∷ []))
    ∷ row "to a cell void and then typed 7" (after (define void 30 ∷ define pointer 30 ∷ []) [] address (in_entity 1 10) [] (cells 1 30)) (accepted (460 ∷ []))
    ∷ row "no 16 by field definition" (after [] (define string 10 ∷ []) address (in_entity 1 10) [] (cells 1 30)) (accepted (460 ∷ []))
    ∷ row "an Address writes no field" (after [] [] address (in_entity 1 10) [] (fields 2 114)) (accepted (1114 ∷ 1115 ∷ []))
    ∷ []

abbrev address_refusals : List Row
address_refusals =
    row "16: the entity's cell" (load_after (define float 28 ∷ []) [] address []) (refused 16)
    ∷ row "15: the entity's cell" (load_after [] [] (op 30 66 29 30) []) (refused 15)
    ∷ row "17: a negative entity" (after [] [] address (in_entity 0x80000000 10) [] state) (refused 17)
    ∷ row "16: the field's cell" (load_after (define entity 29 ∷ []) [] address []) (refused 16)
    ∷ row "15: the field's cell" (load_after [] [] (op 30 28 66 30) []) (refused 15)
    ∷ row "17: a negative field" (after [] [] address (in_entity 1 0x80000000) [] state) (refused 17)
    ∷ row "16: the pointer's cell" (load_after (define field 30 ∷ []) [] address []) (refused 16)
    ∷ row "16: the pointer's cell, void and then a field" (load_after (define void 30 ∷ define field 30 ∷ []) [] address []) (refused 16)
    ∷ row "15: the pointer's cell" (load_after [] [] (op 30 28 29 66) []) (refused 15)
    ∷ row "30: an entity not below the count" (after [] [] address (in_entity 2 10) [] state) (refused 30)
    ∷ row "31: a field not below the cells per entity" (after [] [] address (in_entity 0 105) [] state) (refused 31)
    ∷ []

abbrev address_order : List Row
address_order =
    row "16 of the entity before its 15" (load_after (define string 64 ∷ []) [] (op 30 64 29 30) []) (refused 16)
    ∷ row "15 of the entity before its 17" (load_after [] [] (op 30 64 29 30) []) (refused 15)
    ∷ row "17 of the entity before 16 of the field" (after (define string 29 ∷ []) [] address (in_entity 0xffffffff 10) [] state) (refused 17)
    ∷ row "16 of the field before its 15" (load_after (define string 64 ∷ []) [] (op 30 28 64 30) []) (refused 16)
    ∷ row "15 of the field before its 17" (load_after [] [] (op 30 28 64 30) []) (refused 15)
    ∷ row "17 of the field before 16 of the pointer" (after (define float 30 ∷ []) [] address (in_entity 1 0xffffffff) [] state) (refused 17)
    ∷ row "16 of the pointer before its 15" (load_after (define float 64 ∷ []) [] (op 30 28 29 64) []) (refused 16)
    ∷ row "15 of the pointer before 30" (after [] [] (op 30 28 29 64) (in_entity 2 10) [] state) (refused 15)
    ∷ row "30 before 31" (after [] [] address (in_entity 2 105) [] state) (refused 30)
    ∷ row "30 before 32" (after [] [] address (in_entity 0x20000000 10) [] state) (refused 30)
    ∷ row "31 before 32" (after [] [] address (in_entity 1 0x20000000) [] state) (refused 31)
    ∷ []

-- a pointer over 2,147,483,647 is made only with 536,870,912 entity cells lent: more than a row can lend. So these go without a file: an entity of so many
-- cells, and this field of it
abbrev making : ℕ → ℕ → ℕ
making size f =
    judge
    (addresses_effect (record { definitions = []; count = 64 }) (record { definitions = []; count = size }) (record { count = 1; cells = [] }) 28 29 30
    (with (in_entity 0 f) (numbers 64 0))).conditions

abbrev greatest : List Row
greatest =
    row "the greatest pointer, 2,147,483,644" (accepted (making 0x20000001 0x1fffffff ∷ [])) (accepted (0 ∷ []))
    ∷ row "32: a pointer to be made over 2,147,483,647" (accepted (making 0x20000001 0x20000000 ∷ [])) (accepted (32 ∷ []))
    ∷ row "31 before 32" (accepted (making 0x20000000 0x20000000 ∷ [])) (accepted (31 ∷ []))
    ∷ []

-- ---- StoreP: the value is in cell 30, the pointer in cell 33

abbrev store_p : ℕ → Statement
store_p o = op o 30 33 0

abbrev through : ℕ → List Cell
through p = 33 holds p ∷ []

-- through the pointer to field 10 of entity 1
abbrev store_after : List Definition → List Definition → Statement → Seen
store_after globals defined st = after globals defined st (through 460) [] (fields 3 114)

-- with this value in cell 30
abbrev storing : ℕ → List Definition → List Definition → Statement → Seen
storing x globals defined st = after globals defined st (30 holds x ∷ through 460) [] (fields 3 114)

-- "37 to 42 write the first operand through the pointer in the second"
abbrev store_rows : List Row
store_rows =
    row "StorePF" (after [] [] (store_p 37) (through 460) [] (state and fields 3 114 and cells 6 29)) (accepted (2 ∷ 1 ∷ 1 ∷ 0 ∷ 1114 ∷ 30 ∷ 1116 ∷ 29 ∷ 30 ∷ 31 ∷ 32 ∷ 460 ∷ 34 ∷ []))
    ∷ row "StorePV" (after [] [] (store_p 38) (through 460) [] (fields 5 114)) (accepted (1114 ∷ 30 ∷ 31 ∷ 32 ∷ 1118 ∷ []))
    ∷ row "StorePS" (store_after [] [] (store_p 39)) (accepted (1114 ∷ 30 ∷ 1116 ∷ []))
    ∷ row "StorePEnt" (store_after [] [] (store_p 40)) (accepted (1114 ∷ 30 ∷ 1116 ∷ []))
    ∷ row "StorePFld" (store_after [] [] (store_p 41)) (accepted (1114 ∷ 30 ∷ 1116 ∷ []))
    ∷ row "StorePFnc" (store_after [] [] (store_p 42)) (accepted (1114 ∷ 30 ∷ 1116 ∷ []))
    ∷ row "entity 0, field 0" (after [] [] (store_p 37) (through 0) [] (fields 2 0)) (accepted (30 ∷ 1001 ∷ []))
    ∷ row "entity 0, field 1" (after [] [] (store_p 37) (through 4) [] (fields 3 0)) (accepted (1000 ∷ 30 ∷ 1002 ∷ []))
    ∷ row "the last field of the last entity" (after [] [] (store_p 37) (through 836) [] (fields 4 208)) (accepted (1208 ∷ 30 ∷ 1210 ∷ 1211 ∷ []))
    ∷ row "a vector at the last cells of entity 0" (after [] [] (store_p 38) (through 408) [] (fields 5 101)) (accepted (1101 ∷ 30 ∷ 31 ∷ 32 ∷ 1105 ∷ []))
    ∷ row "a vector at the last cells of the last entity" (after [] [] (store_p 38) (through 828) [] (fields 5 206)) (accepted (1206 ∷ 30 ∷ 31 ∷ 32 ∷ 1210 ∷ []))
    ∷ row "a NaN's bits" (storing 0xff800001 [] [] (store_p 37)) (accepted (1114 ∷ 0xff800001 ∷ 1116 ∷ []))
    ∷ row "a negative function" (storing 0xffffffff [] [] (store_p 42)) (accepted (1114 ∷ 0xffffffff ∷ 1116 ∷ []))
    ∷ row "negative components" (after [] [] (store_p 38) (30 holds 0x80000000 ∷ 31 holds 0xbf800000 ∷ 32 holds 0xffffffff ∷ through 460) [] (fields 5 114))
    (accepted (1114 ∷ 0x80000000 ∷ 0xbf800000 ∷ 0xffffffff ∷ 1118 ∷ []))
    ∷ row "through a cell typed 7" (store_after (define pointer 33 ∷ []) [] (store_p 37)) (accepted (1114 ∷ 30 ∷ 1116 ∷ []))
    ∷ []

abbrev store_refusals : List Row
store_refusals =
    row "18: the third operand" (store_after [] [] (op 37 30 33 1)) (refused 18)
    ∷ row "16: the value's cell" (store_after (define string 30 ∷ []) [] (store_p 37)) (refused 16)
    ∷ row "15: the value's cell" (store_after [] [] (op 37 66 33 0)) (refused 15)
    ∷ row "15: the value's cell, negative" (store_after [] [] (op 37 0xffff 33 0)) (refused 15)
    ∷ row "16: a vector's third cell" (store_after (define string 32 ∷ []) [] (store_p 38)) (refused 16)
    ∷ row "15: a vector's third cell" (store_after [] [] (op 38 62 33 0)) (refused 15)
    ∷ row "17: a negative entity" (storing 0x80000000 [] [] (store_p 40)) (refused 17)
    ∷ row "17: a negative field" (storing 0xffffffff [] [] (store_p 41)) (refused 17)
    ∷ row "16: the pointer's cell" (store_after (define float 33 ∷ []) [] (store_p 37)) (refused 16)
    ∷ row "15: the pointer's cell" (store_after [] [] (op 37 30 66 0)) (refused 15)
    ∷ row "32: negative" (after [] [] (store_p 37) (through 0x80000000) [] state) (refused 32)
    ∷ row "32: no multiple of 4" (after [] [] (store_p 37) (through 461) [] state) (refused 32)
    ∷ row "32: past the last entity, in a lent cell" (after [] [] (store_p 37) (through 840) [] state) (refused 32)
    ∷ row "32: the greatest multiple of 4" (after [] [] (store_p 37) (through 0x7ffffffc) [] state) (refused 32)
    ∷ row "16: by field definition" (store_after [] (define string 10 ∷ []) (store_p 37)) (refused 16)
    ∷ row "16: a vector's second field cell" (store_after [] (define string 11 ∷ []) (store_p 38)) (refused 16)
    ∷ row "31: a vector's third field cell" (after [] [] (store_p 38) (through 412) [] state) (refused 31)
    ∷ row "31: a vector's second field cell" (after [] [] (store_p 38) (through 416) [] state) (refused 31)
    ∷ row "17: a negative string" (storing 0x80000000 [] [] (store_p 39)) (refused 17)
    ∷ []

abbrev store_order : List Row
store_order =
    row "18 before 16 of the value" (store_after (define string 30 ∷ []) [] (op 37 30 33 1)) (refused 18)
    ∷ row "18 before 15 of the value" (store_after [] [] (op 37 66 33 0xffff)) (refused 18)
    ∷ row "18 before 32" (after [] [] (op 37 30 33 1) (through 1) [] state) (refused 18)
    ∷ row "16 of the value before its 15" (store_after (define string 64 ∷ []) [] (op 40 64 33 0)) (refused 16)
    ∷ row "15 of the value before its 17" (store_after [] [] (op 40 64 33 0)) (refused 15)
    ∷ row "17 of the value before 16 of the pointer" (storing 0xffffffff (define float 33 ∷ []) [] (store_p 40)) (refused 17)
    ∷ row "15 of the value before 16 of the pointer" (store_after (define float 33 ∷ []) [] (op 37 64 33 0)) (refused 15)
    ∷ row "16 of the value before 15 of the pointer" (store_after (define string 30 ∷ []) [] (op 37 30 64 0)) (refused 16)
    ∷ row "16 of the pointer before its 15" (store_after (define float 64 ∷ []) [] (op 37 30 64 0)) (refused 16)
    ∷ row "15 of the pointer before 32" (store_after [] [] (op 37 30 64 0)) (refused 15)
    ∷ row "32 before 16 by field definition" (after [] (define string 0 ∷ []) (store_p 37) (through 840) [] state) (refused 32)
    ∷ row "32 before 31" (after [] [] (store_p 38) (through 1256) [] state) (refused 32)
    ∷ row "cell by cell: 16 of the second before 31 of the third" (after [] (define string 104 ∷ []) (store_p 38) (through 412) [] state) (refused 16)
    ∷ row "cell by cell: 31 of the second before 16 of the third" (after [] (define string 106 ∷ []) (store_p 38) (through 416) [] state) (refused 31)
    ∷ row "16 by field definition before 17 of the string" (storing 0xffffffff [] (define float 10 ∷ []) (store_p 39)) (refused 16)
    ∷ row "32 before 17 of the string" (after [] [] (store_p 39) (30 holds 0xffffffff ∷ through 462) [] state) (refused 32)
    ∷ []

-- ---- field definitions: "as `Entity::type_check` does, void ones passed over"

-- a string read and written
abbrev definitions : List Row
definitions =
    row "a field without a definition passes" (load_after [] (define float 9 ∷ define float 11 ∷ []) (load24 26) []) (accepted (1115 ∷ []))
    ∷ row "of its type" (load_after [] (define string 10 ∷ []) (load24 26) []) (accepted (1115 ∷ []))
    ∷ row "a void one is passed over" (load_after [] (define void 10 ∷ define string 10 ∷ []) (load24 26) []) (accepted (1115 ∷ []))
    ∷ row "a void one is passed over, and the next is of another type" (load_after [] (define void 10 ∷ define float 10 ∷ define string 10 ∷ []) (load24 26) []) (refused 16)
    ∷ row "void ones alone" (load_after [] (define void 10 ∷ define void 10 ∷ []) (load24 26) []) (accepted (1115 ∷ []))
    ∷ row "the first definition is taken" (load_after [] (define string 10 ∷ define float 10 ∷ []) (load24 26) []) (accepted (1115 ∷ []))
    ∷ row "the first definition is taken, of another type" (load_after [] (define float 10 ∷ define string 10 ∷ []) (load24 26) []) (refused 16)
    ∷ row "a void one is passed over: StoreP" (store_after [] (define void 10 ∷ define string 10 ∷ []) (store_p 39)) (accepted (1114 ∷ 30 ∷ 1116 ∷ []))
    ∷ row "the first definition is taken: StoreP" (store_after [] (define float 10 ∷ define string 10 ∷ []) (store_p 39)) (refused 16)
    ∷ row "a vector's binds its own cell alone" (load_after [] (define vector 9 ∷ []) (load24 26) []) (accepted (1115 ∷ []))
    ∷ row "a vector's binds its own cell alone: StoreP" (store_after [] (define vector 9 ∷ []) (store_p 39)) (accepted (1114 ∷ 30 ∷ 1116 ∷ []))
    ∷ row "a vector's binds its own cell" (load_after [] (define vector 10 ∷ []) (load24 26) []) (refused 16)
    ∷ row "a vector's binds its own cell: StoreP" (store_after [] (define vector 10 ∷ []) (store_p 39)) (refused 16)
    ∷ row "the same field of every entity" (after [] (define float 10 ∷ []) (load24 26) (in_entity 0 10) [] state) (refused 16)
    ∷ row "float and vector pass for each other: LoadF" (load_after [] (define vector 10 ∷ []) (load24 24) []) (accepted (1115 ∷ []))
    ∷ row "float and vector pass for each other: LoadV" (load_after [] (define float 10 ∷ define vector 11 ∷ define float 12 ∷ []) (load24 25) []) (accepted (1115 ∷ []))
    ∷ row "a pointer is no function" (load_after [] (define pointer 10 ∷ []) (load24 29) []) (refused 16)
    ∷ row "a function" (load_after [] (define function 10 ∷ []) (load24 29) []) (accepted (1115 ∷ []))
    ∷ row "an entity" (load_after [] (define entity 10 ∷ []) (load24 27) []) (accepted (1115 ∷ []))
    ∷ row "a field" (load_after [] (define field 10 ∷ []) (load24 28) []) (accepted (1115 ∷ []))
    ∷ row "field definitions bind no cells" (load_after [] (define float 28 ∷ define float 29 ∷ define float 30 ∷ []) (load24 26) []) (accepted (1115 ∷ []))
    ∷ row "global definitions bind no fields" (load_after (define float 10 ∷ []) [] (load24 26) []) (accepted (1115 ∷ []))
    ∷ []

-- ---- 107 cells per entity, three entities

-- statement 1, in function 1, with these cells
abbrev larger : Statement → List Cell → Contents
larger st given =
    let k = contents [] [] (st ∷ []) (plain ∷ []) given in
    record {
      statements = k.statements;
      globaldefs = k.globaldefs;
      fielddefs = k.fielddefs;
      functions = k.functions;
      strings = k.strings;
      globals = k.globals;
      entityfields = 107;
    }

-- with so many lent entity cells
abbrev lending : ℕ → Statement → List Cell → Scenario → Seen
lending lent st given rest = loading (larger st given) (pos 3) 64 2048 (numbers lent 1000) rest

-- after statement 1
abbrev after_larger : Statement → List Cell → Scenario → Seen
after_larger st given rest = lending 321 st given (enter 1 (complete rest))

abbrev larger_rows : List Row
larger_rows =
    row "lent entity cells as many as the entities have, 3 * 107" (lending 321 address [] number) (accepted (3 ∷ []))
    ∷ row "13: one too few" (lending 320 address [] number) (refused 13)
    ∷ row "Address: (2 * 107 + 10) * 4" (after_larger address (in_entity 2 10) (cells 1 30)) (accepted (896 ∷ []))
    ∷ row "Address: field 106" (after_larger address (in_entity 2 106) (cells 1 30)) (accepted (1280 ∷ []))
    ∷ row "Address, 31: field 107" (after_larger address (in_entity 2 107) state) (refused 31)
    ∷ row "Address, 30: entity 3" (after_larger address (in_entity 3 10) state) (refused 30)
    ∷ row "Load" (after_larger (load24 24) (in_entity 2 10) (cells 1 30)) (accepted (1224 ∷ []))
    ∷ row "Load: field 106" (after_larger (load24 24) (in_entity 2 106) (cells 1 30)) (accepted (1320 ∷ []))
    ∷ row "Load, 31: field 107" (after_larger (load24 24) (in_entity 2 107) state) (refused 31)
    ∷ row "Load, 31: field 107 of an entity before the last" (after_larger (load24 24) (in_entity 0 107) state) (refused 31)
    ∷ row "StoreP" (after_larger (store_p 37) (through 896) (fields 3 223)) (accepted (1223 ∷ 30 ∷ 1225 ∷ []))
    ∷ row "StoreP: field 106" (after_larger (store_p 37) (through 1280) (fields 2 319)) (accepted (1319 ∷ 30 ∷ []))
    ∷ row "StoreP, 32: past the last entity" (after_larger (store_p 37) (through 1284) state) (refused 32)
    ∷ row "StoreP: a vector at the last cells of entity 1" (after_larger (store_p 38) (through 844) (fields 5 210)) (accepted (1210 ∷ 30 ∷ 31 ∷ 32 ∷ 1214 ∷ []))
    ∷ row "StoreP, 31: a vector's third field cell" (after_larger (store_p 38) (through 848) state) (refused 31)
    ∷ []

-- ---- over several statements and calls

-- function 1 makes the pointer to field 10 of entity 1, writes cell 31 through it, which is a local, reads the field to cell 32, and returns it
abbrev written : Scenario → Seen
written rest =
    from
    (contents [] [] (op 30 28 29 33 ∷ op 37 31 33 0 ∷ op 24 28 29 32 ∷ return 32 0 0 ∷ []) (fn 1 31 4 0 [] ∷ []) (31 holds 0x3fc00000 ∷ in_entity 1 10)) []
    (enter 1 rest)

-- function 1 calls function 2, which is in cell 27 and writes field 10 of entity 1, and is then abandoned or left
abbrev written_below : Scenario → Seen
written_below rest =
    from
    (contents [] [] (call 27 0 0 ∷ return 0 0 0 ∷ op 37 30 33 0 ∷ return 0 0 0 ∷ []) (plain ∷ fn 3 30 1 0 [] ∷ []) (27 holds 2 ∷ through 460)) []
    (enter 1 rest)

-- other entity cells are lent
abbrev lend : List ℕ → Scenario → Scenario
lend entities rest P c = rest P (with_entities c entities)

-- a state that a host made up: this number of entities
abbrev counting : ℕ → Scenario → Scenario
counting n rest P c =
    let s = c.state in
    rest P
    (record {
      state =
          record { file = s.file; settings = s.settings; pc = s.pc; function = s.function; depth = s.depth; saved = s.saved; entity_count = n; frames = s.frames };
      cells = c.cells;
      saved = c.saved;
      entities = c.entities;
    })

abbrev all13 : List ℕ
all13 = replicate 7 13

abbrev together : List Row
together =
    row "each counts as one completed statement" (written (run_by (pos 0) (pos 9) state)) (accepted (0 ∷ 4 ∷ 0 ∷ 0 ∷ 0 ∷ 0 ∷ []))
    ∷ row "what is written through a pointer is what a Load reads" (written (run_by (pos 0) (pos 9) (cells 3 1))) (accepted (0 ∷ 4 ∷ 0x3fc00000 ∷ 460 ∷ 34 ∷ []))
    ∷ row "a Return restores cells" (written (run_by (pos 0) (pos 9) (cells 4 31))) (accepted (0 ∷ 4 ∷ 0x3fc00000 ∷ 32 ∷ 33 ∷ 34 ∷ []))
    ∷ row "and no entity cell: which keep what was last written" (written (run_by (pos 0) (pos 9) (fields 3 114))) (accepted (0 ∷ 4 ∷ 1114 ∷ 0x3fc00000 ∷ 1116 ∷ []))
    ∷ row "the other lent entity cells are untouched" (written (run_by (pos 0) (pos 9) (fields 212 0)))
    (accepted (0 ∷ 4 ∷ numbers 115 1000 ++ (0x3fc00000 ∷ numbers 96 1116)))
    ∷ row "nor does an inner Return" (written_below (complete (complete (complete (state and fields 3 114))))) (accepted (2 ∷ 1 ∷ 1 ∷ 0 ∷ 1114 ∷ 30 ∷ 1116 ∷ []))
    ∷ row "an entry touches none" (written_below (complete (fields 3 114))) (accepted (1114 ∷ 1115 ∷ 1116 ∷ []))
    ∷ row "27: a Load" (from (contents [] [] (load24 24 ∷ []) (plain ∷ []) (in_entity 1 10)) [] (enter 1 (carry state))) (refused 27)
    ∷ row "27: an Address" (from (contents [] [] (address ∷ []) (plain ∷ []) (in_entity 1 10)) [] (enter 1 (carry state))) (refused 27)
    ∷ row "27: a StoreP that would complete" (from (contents [] [] (store_p 37 ∷ []) (plain ∷ []) (through 460)) [] (enter 1 (carry state))) (refused 27)
    ∷ row "27: a StoreP that would be refused" (from (contents [] [] (store_p 37 ∷ []) (plain ∷ []) (through 1)) [] (enter 1 (carry state))) (refused 27)
    ∷ row "opcode 60 still goes to the host" (from (contents [] [] (op 60 0 0 0 ∷ []) (plain ∷ []) []) [] (enter 1 (run_by (pos 0) (pos 9) (carry (state and fields 2 0)))))
    (accepted (60 ∷ 0 ∷ 2 ∷ 1 ∷ 1 ∷ 0 ∷ 1000 ∷ 1001 ∷ []))
    ∷ row "between calls the host may change any" (written (complete (lend (numbers 210 5000) (complete (complete (fields 3 114 and cells 1 32))))))
    (accepted (5114 ∷ 0x3fc00000 ∷ 5116 ∷ 0x3fc00000 ∷ []))
    ∷ row "13 in a state: lent entity cells too few" (from least [] (lend (numbers 209 0) every_operation)) (accepted all13)
    ∷ row "13 in a state: not with as many as the entities have" (from least [] (lend (numbers 210 0) (cells 1 0))) (accepted (0 ∷ []))
    ∷ row "13 in a state: too few again, and enough again" (from least [] (lend [] (lend (numbers 211 0) (cells 1 1)))) (accepted (1 ∷ []))
    ∷ row "13 in a state: more than 600 entities" (from least [] (counting 601 every_operation)) (accepted all13)
    ∷ row "13 in a state: one entity more" (from least [] (counting 3 every_operation)) (accepted all13)
    ∷ row "13 in a state: not with fewer" (from least [] (counting 1 (cells 1 0))) (accepted (0 ∷ []))
    ∷ []

-- ---- one theorem of each group: of one check of all of them the memory would be that of all

pub loads_hold : T (all loads)
unfolding computing
loads_hold = tt

pub load_statements_hold : T (all (load_rows ++ load_refusals ++ load_order))
unfolding computing
load_statements_hold = tt

pub addresses_hold : T (all (address_rows ++ address_refusals ++ address_order ++ greatest))
unfolding computing
addresses_hold = tt

pub stores_hold : T (all (store_rows ++ store_refusals ++ store_order))
unfolding computing
stores_hold = tt

pub definitions_hold : T (all definitions)
unfolding computing
definitions_hold = tt

pub larger_hold : T (all larger_rows)
unfolding computing
larger_hold = tt

pub together_hold : T (all together)
unfolding computing
together_hold = tt
