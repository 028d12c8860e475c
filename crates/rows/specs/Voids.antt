-- VOID MARKERS, document 02's R-5: worked cases, as rows of one table that is computed from the definition. Each row starts from the bytes of a file, and goes
-- on by the operations that a host calls. Field definitions have theirs in Fields, since a lookup passed their void ones over before.
use Rattle.std.specs.Prelude.{ℕ, ◌-◌, List, [], ◌∷◌, ◌++◌, pos, set, T}
use Prim.Native.String.{String}
use Rattle.std.specs.Float.Ieee as Ieee
use Rattle.definition.specs.declared.Statement.{Statement}
use Rattle.definition.specs.declared.Definition.{Definition}
use Rattle.definition.specs.Checks.{refused, accepted}
use Rattle.definition.specs.Floats.{rounded, absolute}
use Rattle.definition.specs.Cells.{void, string, float, vector, entity, field, function, pointer}
use Rattle.definition.specs.Statements.{rounding_effect, values_effect, negates_effect}
use Rattle.definition.specs.Starred.{op, return, call, fn, define, plain, typed_program, numbered, Seen, Scenario, ◌and◌, state, cells, write, enter, complete, run_by, from}
use Rattle.definition.specs.Starred.{Row, row, all, computing}

-- ---- files

-- void, string and float with the save flag
abbrev saved_void : ℕ
saved_void = 0x8000

abbrev saved_string : ℕ
saved_string = 0x8001

abbrev saved_float : ℕ
saved_float = 0x8002

-- statement 1, in function 1, with these global definitions; 64 cells, each with its own number in it
abbrev after : List Definition → Statement → Scenario → Seen
after definitions st rest = from (typed_program definitions (st ∷ []) (plain ∷ []) numbered) (enter 1 (complete rest))

-- a float read of cell 30, and the cell it goes to
abbrev reading : List Definition → Seen
reading definitions = after definitions (op 31 30 33 0) (cells 1 33)

-- ---- which definition gives the type

abbrev passed : Seen
passed = accepted (30 ∷ [])

abbrev markers : List Row
markers =
    row "void, then a float" (reading (define void 30 ∷ define float 30 ∷ [])) passed
    ∷ row "void, then a string: 16" (reading (define void 30 ∷ define string 30 ∷ [])) (refused 16)
    ∷ row "void with the save flag, then a float" (reading (define saved_void 30 ∷ define float 30 ∷ [])) passed
    ∷ row "void with the save flag, then a string: 16" (reading (define saved_void 30 ∷ define string 30 ∷ [])) (refused 16)
    ∷ row "void, then a float with the save flag" (reading (define void 30 ∷ define saved_float 30 ∷ [])) passed
    ∷ row "void, then a string with the save flag: 16" (reading (define void 30 ∷ define saved_string 30 ∷ [])) (refused 16)
    ∷ row "void alone" (reading (define void 30 ∷ [])) passed
    ∷ row "void with the save flag alone" (reading (define saved_void 30 ∷ [])) passed
    ∷ row "two void ones alone" (reading (define void 30 ∷ define saved_void 30 ∷ [])) passed
    ∷ row "a float, then void" (reading (define float 30 ∷ define void 30 ∷ [])) passed
    ∷ row "a string, then void: 16" (reading (define string 30 ∷ define void 30 ∷ [])) (refused 16)
    ∷ row "two void ones, then a float" (reading (define void 30 ∷ define saved_void 30 ∷ define float 30 ∷ [])) passed
    ∷ row "two void ones, then a string: 16" (reading (define void 30 ∷ define saved_void 30 ∷ define string 30 ∷ [])) (refused 16)
    ∷ row "of two behind a void one the first" (reading (define void 30 ∷ define float 30 ∷ define string 30 ∷ [])) passed
    ∷ row "of two behind a void one the first: 16" (reading (define void 30 ∷ define string 30 ∷ define float 30 ∷ [])) (refused 16)
    ∷ row "void between a float and a string" (reading (define float 30 ∷ define void 30 ∷ define string 30 ∷ [])) passed
    ∷ row "void between a string and a float: 16" (reading (define string 30 ∷ define void 30 ∷ define float 30 ∷ [])) (refused 16)
    ∷ row "another cell's between the two" (reading (define void 30 ∷ define string 31 ∷ define float 30 ∷ [])) passed
    ∷ row "another cell's void" (reading (define void 29 ∷ define float 30 ∷ [])) passed
    ∷ row "another cell's void: 16" (reading (define void 29 ∷ define string 30 ∷ [])) (refused 16)
    ∷ row "void, and a string of another cell" (reading (define string 29 ∷ define void 30 ∷ define string 31 ∷ [])) passed
    ∷ row "type, then address: void alone, 15" (after (define void 64 ∷ []) (op 31 64 33 0) state) (refused 15)
    ∷ row "type, then address: void, then a float, 15" (after (define void 64 ∷ define float 64 ∷ []) (op 31 64 33 0) state) (refused 15)
    ∷ row "type, then address: void, then a string, 16" (after (define void 64 ∷ define string 64 ∷ []) (op 31 64 33 0) state) (refused 16)
    ∷ []

-- ---- statements, an access of each

-- behind a void one of this cell, one of its type, one of another type, and none; what the statement leaves in cell 33 where the access passes
abbrev access : String → Statement → ℕ → ℕ → ℕ → ℕ → List Row
access words st cell type other result =
    row words (after (define void cell ∷ define type cell ∷ []) st (cells 1 33)) (accepted (result ∷ []))
    ∷ row words (after (define void cell ∷ define other cell ∷ []) st (cells 1 33)) (refused 16)
    ∷ row words (after (define void cell ∷ []) st (cells 1 33)) (accepted (result ∷ []))
    ∷ []

-- cell 30 times cell 31, both subnormal, is 0; entities 30 and 31 differ
abbrev accesses : List Row
accesses =
    access "MulF, first" (op 1 30 31 33) 30 float string 0
    ++ access "MulF, second" (op 1 30 31 33) 31 float entity 0
    ++ access "MulF, destination" (op 1 30 31 33) 33 float function 0
    ++ access "MulF, first, a vector" (op 1 30 31 33) 30 vector pointer 0
    ++ access "EqEnt, second" (op 13 30 31 33) 31 entity float 0
    ++ access "NotFnc" (op 48 30 0 33) 30 function field 0
    ++ access "StoreV, a source's third cell" (op 32 30 33 0) 32 float string 30
    ++ access "StoreV, a destination's second cell" (op 32 30 33 0) 34 vector string 30
    ++ access "StoreS, source" (op 33 30 33 0) 30 string float 30
    ++ access "StoreEnt, destination" (op 34 30 33 0) 33 entity float 30
    ++ access "StoreFld, source" (op 35 30 33 0) 30 field pointer 30
    ++ access "StoreFnc, destination" (op 36 30 33 0) 33 function field 30
    ++ access "If" (op 49 30 5 0) 30 float string 33

-- ---- calls and runs

-- function 1 calls the function in cell 40, and then returns cell 1; function 2 is the builtin 37, floor, and cell 4 has -2.5
abbrev calling : List Definition → Scenario → Seen
calling definitions rest =
    from
    (typed_program definitions (call 40 0 0 ∷ return 1 0 0 ∷ []) (plain ∷ fn (4294967296 - 37) 0 0 0 [] ∷ []) (set (set numbered 4 0xc0200000) 40 2))
    (enter 1 rest)

abbrev floored : Seen
floored = accepted (0xc0400000 ∷ [])

-- function 1 stores cell 28 in cell 30, which has a void definition and then this one, multiplies it by itself, and returns it
abbrev marked : ℕ → Scenario → Seen
marked type rest =
    from (typed_program (define void 30 ∷ define type 30 ∷ []) (op 31 28 30 0 ∷ op 1 30 30 33 ∷ return 30 0 0 ∷ []) (plain ∷ []) numbered) (enter 1 rest)

-- a run's detail is the number of its refusal, and the statements before it come next
abbrev runs : List Row
runs =
    row "Call" (calling (define void 40 ∷ define function 40 ∷ []) (complete (cells 1 1))) floored
    ∷ row "Call: 16" (calling (define void 40 ∷ define float 40 ∷ []) (complete (cells 1 1))) (refused 16)
    ∷ row "Call: void alone" (calling (define void 40 ∷ []) (complete (cells 1 1))) floored
    ∷ row "R-1, the argument's cell" (calling (define saved_void 4 ∷ define float 4 ∷ []) (complete (cells 1 1))) floored
    ∷ row "R-1, the argument's cell: 16" (calling (define saved_void 4 ∷ define string 4 ∷ []) (complete (cells 1 1))) (refused 16)
    ∷ row "R-1, the result's cell" (calling (define void 1 ∷ define vector 1 ∷ []) (complete (cells 1 1))) floored
    ∷ row "R-1, the result's cell: 16" (calling (define void 1 ∷ define entity 1 ∷ []) (complete (cells 1 1))) (refused 16)
    ∷ row "a run ends" (marked float (run_by (pos 0) (pos 9) (state and cells 1 1))) (accepted (0 ∷ 3 ∷ 0 ∷ 0 ∷ 0 ∷ 0 ∷ 28 ∷ []))
    ∷ row "a run is refused at the first access of another type" (marked string (run_by (pos 0) (pos 9) (state and cells 1 30)))
    (accepted (16 ∷ 0 ∷ 1 ∷ 1 ∷ 1 ∷ 0 ∷ 30 ∷ []))
    ∷ row "raw access looks at no type" (marked string (write 30 7 (cells 1 30))) (accepted (7 ∷ []))
    ∷ []

-- ---- one theorem of each group

pub markers_hold : T (all markers)
unfolding computing
markers_hold = tt

pub accesses_hold : T (all accesses)
unfolding computing values_effect negates_effect
accesses_hold = tt

pub runs_hold : T (all runs)
unfolding computing Ieee.round rounded absolute rounding_effect
runs_hold = tt
