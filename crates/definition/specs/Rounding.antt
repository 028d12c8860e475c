-- ROUNDING CALLS, document 02's R-1: values worked out by hand, and calls of the four builtins, as rows of two tables that are computed from the
-- definition.
use Rattle.std.specs.Prelude.{ℕ, ◌-◌, List, [], ◌∷◌, Bool, true, ◌&&◌, pos, set, T, eqb}
use Prim.Native.String.{String}
use Rattle.std.specs.Float.Ieee as Ieee
use Rattle.definition.specs.declared.Definition.{Definition}
use Rattle.definition.specs.Checks.{refused, accepted}
use Rattle.definition.specs.Floats.{rounded, floor_f, ceil_f, rint_f, absolute, fabs_f}
use Rattle.definition.specs.Cells.{string, float, vector, entity}
use Rattle.definition.specs.Statements.{rounding_effect}
use Rattle.definition.specs.Starred.{call, return, fn, define, plain, typed_program, numbered, Seen, Scenario, ◌and◌, state, cells, enter, complete, run_by, carry, from}
use Rattle.definition.specs.Starred.{Row, row, all, computing}

-- ---- values

-- an argument, and what fabs, floor, ceil and rint make of it
pub data Value : Type 0 where
  gives : String → ℕ → ℕ → ℕ → ℕ → ℕ → Value

abbrev holds : Value → Bool
holds (gives words x abs floor ceil rint) = eqb (fabs_f x) abs && eqb (floor_f x) floor && eqb (ceil_f x) ceil && eqb (rint_f x) rint

abbrev all_hold : List Value → Bool
all_hold [] = true
all_hold (v ∷ vs) = holds v && all_hold vs

abbrev pub values : List Value
values =
    gives "0.5" 0x3f000000 0x3f000000 0 0x3f800000 0x3f800000
    ∷ gives "-0.5" 0xbf000000 0x3f000000 0xbf800000 0x80000000 0xbf800000
    ∷ gives "0.49999997" 0x3effffff 0x3effffff 0 0x3f800000 0
    ∷ gives "-0.25" 0xbe800000 0x3e800000 0xbf800000 0x80000000 0x80000000
    ∷ gives "1.5" 0x3fc00000 0x3fc00000 0x3f800000 0x40000000 0x40000000
    ∷ gives "-1.5" 0xbfc00000 0x3fc00000 0xc0000000 0xbf800000 0xc0000000
    ∷ gives "2.5" 0x40200000 0x40200000 0x40000000 0x40400000 0x40400000
    ∷ gives "-2.75" 0xc0300000 0x40300000 0xc0400000 0xc0000000 0xc0400000
    ∷ gives "2.25" 0x40100000 0x40100000 0x40000000 0x40400000 0x40000000
    ∷ gives "-3.0" 0xc0400000 0x40400000 0xc0400000 0xc0400000 0xc0400000
    ∷ gives "8388607.5" 0x4affffff 0x4affffff 0x4afffffe 0x4b000000 0x4b000000
    ∷ gives "-8388609.0" 0xcb000001 0x4b000001 0xcb000001 0xcb000001 0xcb000001
    ∷ gives "the greatest" 0x7f7fffff 0x7f7fffff 0x7f7fffff 0x7f7fffff 0x7f7fffff
    ∷ gives "+0" 0 0 0 0 0
    ∷ gives "-0" 0x80000000 0 0x80000000 0x80000000 0x80000000
    ∷ gives "the least" 0x00000001 0x00000001 0 0x3f800000 0
    ∷ gives "a subnormal below 0" 0x80400000 0x00400000 0xbf800000 0x80000000 0x80000000
    ∷ gives "an infinity" 0x7f800000 0x7f800000 0x7f800000 0x7f800000 0x7f800000
    ∷ gives "the other" 0xff800000 0x7f800000 0xff800000 0xff800000 0xff800000
    ∷ gives "a NaN" 0x7fc00000 0x7fc00000 0x7fc00000 0x7fc00000 0x7fc00000
    ∷ gives "a signalling one" 0x7f800001 0x7fc00000 0x7fc00000 0x7fc00000 0x7fc00000
    ∷ gives "negative ones" 0xff800001 0x7fc00000 0x7fc00000 0x7fc00000 0x7fc00000
    ∷ gives "the last of them" 0xffffffff 0x7fc00000 0x7fc00000 0x7fc00000 0x7fc00000
    ∷ []

pub values_hold : T (all_hold values)
unfolding Ieee.of_bits Ieee.to_bits Ieee.round rounded absolute
values_hold = tt

-- ---- calls

-- function 2 is the builtin n, and function 1 calls it, with x in cell 4, and returns cells 1 to 3
abbrev calling : List Definition → ℕ → ℕ → Scenario → Seen
calling definitions n x rest =
    from
    (typed_program definitions (call 40 0 0 ∷ return 1 0 0 ∷ []) (plain ∷ fn (4294967296 - n) 0 0 0 [] ∷ []) (set (set numbered 4 x) 40 2))
    (enter 1 rest)

-- the same for -2.5
abbrev called : ℕ → Scenario → Seen
called n = calling [] n 0xc0200000

abbrev pub calls : List Row
calls =
    row "float in cell 4, result in cell 1: one completed statement"
    (called 37 (complete (state and cells 5 0))) (accepted (2 ∷ 1 ∷ 1 ∷ 0 ∷ 0 ∷ 0xc0400000 ∷ 2 ∷ 3 ∷ 0xc0200000 ∷ []))
    ∷ row "43: fabs" (called 43 (complete (cells 1 1))) (accepted (0x40200000 ∷ []))
    ∷ row "38: ceil" (called 38 (complete (cells 1 1))) (accepted (0xc0000000 ∷ []))
    ∷ row "36: rint" (called 36 (complete (cells 1 1))) (accepted (0xc0400000 ∷ []))
    ∷ row "36: rint, halves away from zero" (calling [] 36 0x3f000000 (complete (cells 1 1))) (accepted (0x3f800000 ∷ []))
    ∷ row "and the run goes on" (called 36 (run_by (pos 0) (pos 9) (state and cells 3 1))) (accepted (0 ∷ 2 ∷ 0 ∷ 0 ∷ 0 ∷ 0 ∷ 0xc0400000 ∷ 2 ∷ 3 ∷ []))
    ∷ row "the builtin 35 is handed over" (called 35 (run_by (pos 0) (pos 9) state)) (accepted (35 ∷ 0 ∷ 1 ∷ 1 ∷ 1 ∷ 0 ∷ []))
    ∷ row "the builtin 44 is handed over" (called 44 (run_by (pos 0) (pos 9) state)) (accepted (44 ∷ 0 ∷ 1 ∷ 1 ∷ 1 ∷ 0 ∷ []))
    ∷ row "typed as they must be" (calling (define float 4 ∷ define vector 1 ∷ []) 37 0x3f000000 (complete (cells 1 1))) (accepted (0 ∷ []))
    ∷ row "16: cell 4" (calling (define string 4 ∷ []) 37 0 (complete state)) (refused 16)
    ∷ row "16: cell 1" (calling (define entity 1 ∷ []) 37 0 (complete state)) (refused 16)
    ∷ row "no longer handed over, 27: would not be handed over" (called 43 (carry state)) (refused 27)
    ∷ row "27: would be refused 16" (calling (define string 4 ∷ []) 43 0 (carry state)) (refused 27)
    ∷ row "21: a host entry" (called 36 (enter 2 state)) (refused 21)
    ∷ []

pub calls_hold : T (all calls)
unfolding computing Ieee.round rounded absolute rounding_effect
calls_hold = tt
