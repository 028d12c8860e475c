-- HOUSE LIMITS PER VENUE, document 02's R-11: worked cases, as rows of one table that is computed from the definition. Each row starts from the bytes of a
-- file of 64 cells, each with its own number in it.
use Rattle.std.specs.Prelude.{ℕ, List, [], ◌∷◌, ◌++◌, pos, set, replicate, take, drop, T}
use Rattle.definition.specs.declared.Settings.{Settings}
use Rattle.definition.specs.Checks.{refused, accepted}
use Rattle.definition.specs.File.{standard}
use Rattle.definition.specs.Written.{u16_bytes, u32_bytes, statement_bytes, definition_bytes, function_bytes, bytes_of, layout, header_numbers, written, write_conditions, write_file}
use Rattle.definition.specs.Starred.{assembled, op, fn, plain, program, numbered, Seen, and_then, Scenario, state, enter, run_by, every_operation, Row, row, all, computing}
use Rattle.definition.specs.ChangeRequests.{settled, under}

abbrev with : ℕ → ℕ → ℕ → ℕ → Settings
with check depth saved limit = record { check_number = check; depth = depth; saved = saved; limit = limit }

-- function 1 has no locals, function 2 has 2, function 3 calls itself, by cell 40; statements 1 and 2 jump to the next one
abbrev file : List ℕ
file =
    assembled
    (program (op 61 1 0 0 ∷ op 61 1 0 0 ∷ op 51 40 0 0 ∷ []) (plain ∷ fn 1 30 2 0 [] ∷ fn 3 30 0 0 [] ∷ []) (set numbered 40 3))

-- the same with another check number in its header
abbrev checked : ℕ → ℕ → List ℕ
checked low high = set (set file 4 low) 5 high

-- ---- each setting at both ends and one past

-- "36, before the file is looked at": of no bytes at all a load refuses 1
abbrev ranges : List Row
ranges =
    row "check number 0" (under (with 0 31 2048 99999) [] state) (refused 1)
    ∷ row "check number 65,535" (under (with 65535 31 2048 99999) [] state) (refused 1)
    ∷ row "check number 65,536" (under (with 65536 31 2048 99999) [] state) (refused 36)
    ∷ row "depth 0" (under (with 5927 0 2048 99999) [] state) (refused 36)
    ∷ row "depth 1" (under (with 5927 1 2048 99999) [] state) (refused 1)
    ∷ row "depth 31" (under (with 5927 31 2048 99999) [] state) (refused 1)
    ∷ row "depth 32" (under (with 5927 32 2048 99999) [] state) (refused 36)
    ∷ row "saved count 0" (under (with 5927 31 0 99999) [] state) (refused 1)
    ∷ row "saved count 2,048" (under (with 5927 31 2048 99999) [] state) (refused 1)
    ∷ row "saved count 2,049" (under (with 5927 31 2049 99999) [] state) (refused 36)
    ∷ row "run limit 0" (under (with 5927 31 2048 0) [] state) (refused 36)
    ∷ row "run limit 1" (under (with 5927 31 2048 1) [] state) (refused 1)
    ∷ row "run limit 99,999" (under (with 5927 31 2048 99999) [] state) (refused 1)
    ∷ row "run limit 100,000" (under (with 5927 31 2048 100000) [] state) (refused 36)
    ∷ row "the bits of -1" (under (with 0xffffffffffffffff 31 2048 99999) [] state) (refused 36)
    ∷ []

-- ---- the check number

abbrev check_numbers : List Row
check_numbers =
    row "01's" (under standard file state) (accepted (0 ∷ 0 ∷ 0 ∷ 0 ∷ []))
    ∷ row "3: another" (under standard (checked 7 0) state) (refused 3)
    ∷ row "0" (under (with 0 31 2048 99999) (checked 0 0) state) (accepted (0 ∷ 0 ∷ 0 ∷ 0 ∷ []))
    ∷ row "65,535" (under (with 65535 31 2048 99999) (checked 255 255) state) (accepted (0 ∷ 0 ∷ 0 ∷ 0 ∷ []))
    ∷ row "3: 01's under another" (under (with 7 31 2048 99999) file state) (refused 3)
    ∷ row "3: the upper two bytes count" (under (with 5927 31 2048 99999) (set file 6 1) state) (refused 3)
    ∷ row "the one held isn't compared with the bytes again" (under standard file (settled (with 7 31 2048 99999) state)) (accepted (0 ∷ 0 ∷ 0 ∷ 0 ∷ []))
    ∷ row "nor by an operation" (under standard file (settled (with 7 31 2048 99999) (enter 1 state))) (accepted (1 ∷ 1 ∷ 1 ∷ 0 ∷ []))
    ∷ []

-- what R-6 writes into so many bytes: its bytes 4 to 7
abbrev written_number : List ℕ → Scenario
written_number bytes P c = and_then (write_file bytes (replicate 1000 9) c) (λ i. accepted (take 4 (drop 4 i.output)))

abbrev writings : List Row
writings =
    row "01's" (under standard file (written_number file)) (accepted (39 ∷ 23 ∷ 0 ∷ 0 ∷ []))
    ∷ row "another" (under (with 65535 31 2048 99999) (checked 255 255) (written_number (checked 255 255))) (accepted (255 ∷ 255 ∷ 0 ∷ 0 ∷ []))
    ∷ row "the one held" (under standard file (settled (with 7 31 2048 99999) (written_number file))) (accepted (7 ∷ 0 ∷ 0 ∷ 0 ∷ []))
    ∷ []

-- ---- entries and runs

abbrev bounds : List Row
bounds =
    row "22 at depth 1" (under (with 5927 1 2048 99999) file (enter 1 (enter 1 state))) (refused 22)
    ∷ row "22 at depth 2" (under (with 5927 2 2048 99999) file (enter 1 (enter 1 (enter 1 state)))) (refused 22)
    ∷ row "22 within a run, after the entries that the depth allows"
    (under (with 5927 3 2048 99999) file (enter 3 (run_by (pos 0) (pos 9) state))) (accepted (22 ∷ 2 ∷ 3 ∷ 3 ∷ 3 ∷ 0 ∷ []))
    ∷ row "23 over 1" (under (with 5927 31 1 99999) file (enter 2 state)) (refused 23)
    ∷ row "not over 2" (under (with 5927 31 2 99999) file (enter 2 state)) (accepted (1 ∷ 2 ∷ 1 ∷ 2 ∷ []))
    ∷ row "23 over 3, of two functions" (under (with 5927 31 3 99999) file (enter 2 (enter 2 state))) (refused 23)
    ∷ row "a run that stops at a lower limit" (under (with 5927 31 2048 1) file (enter 1 (run_by (pos 0) (pos 1) state))) (accepted (0 ∷ 1 ∷ 2 ∷ 1 ∷ 1 ∷ 0 ∷ []))
    ∷ row "28 above it" (under (with 5927 31 2048 1) file (enter 1 (run_by (pos 0) (pos 2) state))) (accepted (28 ∷ 0 ∷ 1 ∷ 1 ∷ 1 ∷ 0 ∷ []))
    ∷ row "28 above 99,998" (under (with 5927 31 2048 99998) file (enter 1 (run_by (pos 0) (pos 99999) state))) (accepted (28 ∷ 0 ∷ 1 ∷ 1 ∷ 1 ∷ 0 ∷ []))
    ∷ []

-- ---- states that a host made up: function 2 is entered, and then other settings are held

abbrev held : Settings → Seen
held s = under standard file (enter 2 (settled s every_operation))

-- every operation goes by its own row: 20, completed, 28, 27, 29, 15, 15
abbrev goes_on : Seen
goes_on = accepted (20 ∷ 0 ∷ 28 ∷ 27 ∷ 29 ∷ 15 ∷ 15 ∷ [])

abbrev states : List Row
states =
    row "as loaded" (held standard) goes_on
    ∷ row "depth at the setting" (held (with 5927 1 2048 99999)) goes_on
    ∷ row "13: depth over the setting"
    (under standard file (enter 1 (enter 1 (settled (with 5927 1 2048 99999) every_operation)))) (accepted (replicate 7 13))
    ∷ row "saved count at the setting" (held (with 5927 31 2 99999)) goes_on
    ∷ row "13: saved count over the setting" (held (with 5927 31 1 99999)) (accepted (replicate 7 13))
    ∷ row "check number 65,535" (held (with 65535 31 2048 99999)) goes_on
    ∷ row "13: check number 65,536" (held (with 65536 31 2048 99999)) (accepted (replicate 7 13))
    ∷ row "13: depth 0" (under standard file (settled (with 5927 0 2048 99999) every_operation)) (accepted (replicate 7 13))
    ∷ row "13: depth 32" (held (with 5927 32 2048 99999)) (accepted (replicate 7 13))
    ∷ row "13: saved count 2,049" (held (with 5927 31 2049 99999)) (accepted (replicate 7 13))
    ∷ row "13: run limit 0" (held (with 5927 31 2048 0)) (accepted (replicate 7 13))
    ∷ row "13: run limit 100,000" (held (with 5927 31 2048 100000)) (accepted (replicate 7 13))
    ∷ []

-- ---- one theorem of each group

pub ranges_hold : T (all ranges)
unfolding computing
ranges_hold = tt

pub check_numbers_hold : T (all check_numbers)
unfolding computing
check_numbers_hold = tt

pub writings_hold : T (all writings)
unfolding computing u16_bytes u32_bytes statement_bytes definition_bytes function_bytes bytes_of layout header_numbers written write_conditions write_file
writings_hold = tt

pub bounds_hold : T (all bounds)
unfolding computing
bounds_hold = tt

pub states_hold : T (all states)
unfolding computing
states_hold = tt
