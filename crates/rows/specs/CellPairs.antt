-- MATCH SETTINGS WRITTEN TOGETHER, document 02's R-9: worked cases, as rows of one table that is computed from the definition. Each row starts from the bytes
-- of a file of 64 cells, each with its own number in it, to which two cells more are lent.
use Rattle.std.specs.Prelude.{ℕ, zero, suc, ◌+◌, List, [], ◌∷◌, ◌++◌, ℤ, pos, negsuc, set, T}
use Rattle.definition.specs.Checks.{accepted}
use Rattle.definition.specs.Operations.{pair_conditions, pairs_conditions, pairs_written, write_all}
use Rattle.definition.specs.Answers.{outcome, refusal_number}
use Rattle.definition.specs.Starred.{fn, program, numbers, numbered, Seen, also, Scenario, ◌and◌, state, lent, write, enter, lending, from, Row, row, all, computing}

-- ---- pairs

abbrev pair : ℕ → ℕ → List ℤ
pair address value = pos address ∷ pos value ∷ []

-- n pairs, of the addresses from a on and the values from v on
abbrev pairs : ℕ → ℕ → ℕ → List ℤ
pairs zero a v = []
pairs (suc n) a v = pair a v ++ pairs n (a + 1) (v + 1)

-- n pairs of one address, with the values from v on
abbrev again : ℕ → ℕ → ℕ → List ℤ
again zero a v = []
again (suc n) a v = pair a v ++ again n a (v + 1)

-- time limit, frag limit and map, in cells 40, 41 and 42
abbrev settings : ℕ → List ℤ
settings map = pair 40 0x41200000 ++ pair 41 0x41a00000 ++ pair map 3

-- ---- what is seen: the number of the refusal, 0 where there is none, and what the operation leaves

abbrev try_to_write : List ℤ → Scenario → Scenario
try_to_write given rest P c =
    let o = outcome c (write_all P given c) in
    also (refusal_number o.answer ∷ []) (rest P o.config)

-- all the lent cells, those past the file's count too
abbrev writing : List ℤ → Seen
writing given = from (program [] (fn 1 30 1 0 [] ∷ []) numbered) (try_to_write given (lent 0))

abbrev past : List ℕ
past = 0xffffffff ∷ 0xffffffff ∷ []

abbrev leaves : List ℕ → Seen
leaves written = accepted (0 ∷ written ++ past)

abbrev refused15 : Seen
refused15 = accepted (15 ∷ numbered ++ past)

-- ---- "Up to 64 pairs", "15 for more than 64 pairs or an unpaired number"

abbrev counts : List Row
counts =
    row "no pair" (writing []) (leaves numbered)
    ∷ row "one" (writing (pair 30 7)) (leaves (set numbered 30 7))
    ∷ row "three" (writing (settings 42)) (leaves (set (set (set numbered 40 0x41200000) 41 0x41a00000) 42 3))
    ∷ row "64, of every cell" (writing (pairs 64 0 1000)) (leaves (numbers 64 1000))
    ∷ row "65: 15" (writing (pairs 64 0 1000 ++ pair 0 7)) refused15
    ∷ row "65 of one cell: 15" (writing (again 65 30 1000)) refused15
    ∷ row "a number: 15" (writing (pos 30 ∷ [])) refused15
    ∷ row "a number behind a pair: 15" (writing (pair 30 7 ++ (pos 31 ∷ []))) refused15
    ∷ row "a number behind 63 pairs: 15" (writing (pairs 63 0 1000 ++ (pos 63 ∷ []))) refused15
    ∷ row "a number behind 64 pairs: 15" (writing (pairs 64 0 1000 ++ (pos 0 ∷ []))) refused15
    ∷ []

-- ---- "all or none", "that of the first bad pair"

abbrev bad : List Row
bad =
    row "the first" (writing (pair 64 7 ++ pair 30 7 ++ pair 31 7)) refused15
    ∷ row "one in the middle" (writing (pair 30 7 ++ pair 64 7 ++ pair 31 7)) refused15
    ∷ row "the last" (writing (settings 64)) refused15
    ∷ row "the last of 64" (writing (pairs 63 0 1000 ++ pair 64 7)) refused15
    ∷ row "each" (writing (pairs 2 64 7)) refused15
    ∷ row "one alone" (writing (pair 64 7)) refused15
    ∷ row "the last lent cell" (writing (pair 65 7)) refused15
    ∷ row "an address past the lent cells" (writing (pair 66 7)) refused15
    ∷ row "a negative address" (writing (pair 30 7 ++ (negsuc 0 ∷ pos 7 ∷ []))) refused15
    ∷ row "the greatest value" (writing (pair 63 0xffffffff)) (leaves (set numbered 63 0xffffffff))
    ∷ row "a value of more than 32 bits" (writing (pair 30 0x100000000)) refused15
    ∷ row "a negative value" (writing (pair 30 7 ++ (pos 31 ∷ negsuc 0 ∷ []))) refused15
    ∷ []

-- ---- "Of two pairs with one address the later holds"

abbrev equal : List Row
equal =
    row "of two" (writing (pair 30 7 ++ pair 30 8)) (leaves (set numbered 30 8))
    ∷ row "the greater value first" (writing (pair 30 8 ++ pair 30 7)) (leaves (set numbered 30 7))
    ∷ row "with others before, between and behind" (writing (pair 29 1 ++ pair 30 7 ++ pair 31 2 ++ pair 30 8 ++ pair 32 3))
    (leaves (set (set (set (set numbered 29 1) 31 2) 30 8) 32 3))
    ∷ row "of 64" (writing (again 64 30 1000)) (leaves (set numbered 30 1063))
    ∷ []

-- ---- 13 first, in a state to which one cell too few is lent; and what else there is of a state

abbrev short : List ℤ → Seen
short given = from (program [] (fn 1 30 1 0 [] ∷ []) numbered) (lending 63 2048 (try_to_write given (lent 0)))

abbrev refused13 : Seen
refused13 = accepted (13 ∷ numbers 63 0)

-- from function 1, of one local
abbrev in_function : List ℤ → Seen
in_function given = from (program [] (fn 1 30 1 0 [] ∷ []) numbered) (enter 1 (try_to_write given (state and lent 0)))

abbrev states : List Row
states =
    row "13, of a good pair" (short (pair 30 7)) refused13
    ∷ row "13, of no pair" (short []) refused13
    ∷ row "13, before 15 for a bad pair" (short (pair 64 7)) refused13
    ∷ row "13, before 15 for a number" (short (pos 30 ∷ [])) refused13
    ∷ row "13, before 15 for 65 pairs" (short (again 65 30 7)) refused13
    ∷ row "in a function: a cell of its locals too" (in_function (pair 30 7)) (accepted (0 ∷ 1 ∷ 1 ∷ 1 ∷ 1 ∷ set numbered 30 7 ++ past))
    ∷ row "in a function: refused" (in_function (settings 64)) (accepted (15 ∷ 1 ∷ 1 ∷ 1 ∷ 1 ∷ numbered ++ past))
    ∷ row "after a raw write of the same cell" (from (program [] (fn 1 30 1 0 [] ∷ []) numbered) (write 30 7 (try_to_write (pair 30 8) (lent 0)))) (leaves (set numbered 30 8))
    ∷ []

-- ---- one theorem of each group

pub counts_hold : T (all counts)
unfolding computing pair_conditions pairs_conditions pairs_written write_all
counts_hold = tt

pub bad_hold : T (all bad)
unfolding computing pair_conditions pairs_conditions pairs_written write_all
bad_hold = tt

pub equal_hold : T (all equal)
unfolding computing pair_conditions pairs_conditions pairs_written write_all
equal_hold = tt

pub states_hold : T (all states)
unfolding computing pair_conditions pairs_conditions pairs_written write_all
states_hold = tt
