-- THE OPERATIONS that a host calls on a loaded program: entry, statement, run, carry on, abandon, raw read and write, and 02's writing of pairs together.
-- "Later operations on a state check 13 first too", and "28 and 29 come directly after 13".
use Rattle.std.specs.Prelude.{ℕ, zero, suc, ◌+◌, ◌-◌, ◌*◌, ◌%◌, List, [], ◌∷◌, ◌++◌, Bool, true, false, not, ◌&&◌, ℤ, pos, negsuc, ◌+ℤ◌, length, get_or, set, leb, ltb, eqb}
use Rattle.definition.specs.declared.StackFrame.{StackFrame}
use Rattle.definition.specs.declared.RunAnswer.TheVariants.{Refused}
use Rattle.definition.specs.Checks.{Conditions, ◌otherwise◌, judge, Checked, guard}
use Rattle.definition.specs.File.{saved_store, negative, between, settings_fit}
use Rattle.definition.specs.Statements.{Does, next, puts, calls, returns, refuses, hands_over, place_of}
use Rattle.definition.specs.Machine.{Program, function_of, State, Config, entities_of, count_of, entities_fit, zero_frame, with_cells, advanced}
use Rattle.definition.specs.Machine.{entry_conditions, entered, leave_conditions, left, Stepped, refused_step, step, Ran, run_for}

-- ---- check 13

-- the functions of frames k down to 1
unfoldable pub frame_functions : ℕ → List StackFrame → List ℕ
frame_functions zero frames = []
frame_functions (suc k) frames = (get_or frames (suc k) zero_frame).func_id ∷ frame_functions k frames

abbrev pub entered_at : ℕ → ℕ → List StackFrame → List ℕ
entered_at zero f frames = []
entered_at (suc k) f frames = f ∷ frame_functions k frames

-- "an entered function (at depth above 0 the current one and every frame's but the lowest)"
unfoldable pub entered_functions : State → List ℕ
entered_functions s = entered_at s.depth s.function s.frames

-- none is "absent or of negative local count"
unfoldable pub all_present : Program → List ℕ → Bool
all_present P [] = true
all_present P (f ∷ fs) = ltb f (length P.functions) && not (negative (function_of P f).locals) && all_present P fs

unfoldable pub locals_of : Program → List ℕ → ℕ
locals_of P [] = 0
locals_of P (f ∷ fs) = (function_of P f).locals + locals_of P fs

-- the row "any operation on a state"; R-11: the depth and the saved count are those of the settings, and "Settings out of range are refused .. 13 in a
-- state". The check number that a state holds isn't compared with the bytes again
unfoldable pub sound : Program → Config → Bool
sound P c =
    P.recorded c.state.file (length c.cells)
    && leb saved_store (length c.saved)
    && entities_fit c.state.entity_count c.state.file.entityfields (length c.entities)
    && settings_fit c.state.settings
    && leb c.state.depth c.state.settings.depth
    && all_present P (entered_functions c.state)
    && leb c.state.saved c.state.settings.saved
    && eqb c.state.saved (locals_of P (entered_functions c.state))

-- ---- the numbers that a host gives are signed

abbrev pub natural : ℤ → ℕ
natural (pos n) = n
natural (negsuc n) = 0

-- from 0 up to below n
abbrev pub below : ℤ → ℕ → Bool
below (pos i) n = ltb i n
below (negsuc i) n = false

abbrev pub permitted : ℤ → ℕ → Bool
permitted (pos n) most = between 1 most n
permitted (negsuc n) most = false

-- ---- entry, statement, run

unfoldable pub host_enter : Program → ℤ → Config → Checked Config
host_enter P f c =
    let i = place_of (length P.functions) f in
    guard ((sound P c otherwise 13) ∷ entry_conditions P i c) (entered P i c.state.pc c)

abbrev pub step_if : Bool → Stepped → Stepped
step_if true s = s
step_if false s = refused_step 13

unfoldable pub statement : Program → Config → Stepped
statement P c = step_if (sound P c) (step P c)

-- "28: limit outside 1 to 99,999" (R-11: to the greatest run limit of the settings); "29: target below 0, or not below the depth"; R-12: 37 "after 13 and before 28"
unfoldable pub run_conditions : Program → ℤ → ℤ → Config → Conditions
run_conditions P target limit c =
    (sound P c otherwise 13)
    ∷ (P.room otherwise 37)
    ∷ (permitted limit c.state.settings.limit otherwise 28)
    ∷ (below target c.state.depth otherwise 29)
    ∷ []

abbrev pub run_after : ℕ → Program → ℕ → ℕ → Config → Ran
run_after zero P target limit c = run_for P limit target c
run_after (suc n) P target limit c = record { answer = Refused (suc n); count = 0; config = c }

unfoldable pub run : Program → ℤ → ℤ → Config → Ran
run P target limit c = run_after (judge (run_conditions P target limit c)) P (natural target) (natural limit) c

-- ---- carry on and abandon

abbrev pub is_handed_over : Does → Bool
is_handed_over (next p cells) = false
is_handed_over (puts p entities) = false
is_handed_over (calls f) = false
is_handed_over (returns a) = false
is_handed_over (refuses n) = false
is_handed_over (hands_over h) = true

-- "14, 7, then 27: that statement, with the cells as they now are, would not be handed over"
unfoldable pub carry_on_conditions : Program → Config → Conditions
carry_on_conditions P c =
    (sound P c otherwise 13)
    ∷ P.fetching c.state.pc
    ++ ((is_handed_over (P.does c.state.pc (entities_of c) c.cells) otherwise 27) ∷ [])

-- "until the host carries on by one"
unfoldable pub carry_on : Program → Config → Checked Config
carry_on P c = guard (carry_on_conditions P c) (advanced c (c.state.pc +ℤ pos 1) c.cells c.entities)

-- n leavings, "innermost first, no return value"
unfoldable pub left_times : Program → ℕ → Config → Config
left_times P zero c = c
left_times P (suc n) c = left_times P n (left P c)

unfoldable pub leavings_conditions : Program → ℕ → Config → Conditions
leavings_conditions P zero c = []
leavings_conditions P (suc n) c = leave_conditions P c ++ leavings_conditions P n (left P c)

abbrev pub leavings_to : ℤ → Config → ℕ
leavings_to target c = c.state.depth - natural target

-- "29: target below 0, or not below the depth (abandon: above it)"; "15 if any local cell to be restored is missing". (25 and 26, which leaving has too,
-- can't be met after 13 and 29.)
unfoldable pub abandon_conditions : Program → ℤ → Config → Conditions
abandon_conditions P target c =
    (sound P c otherwise 13)
    ∷ (below target (c.state.depth + 1) otherwise 29)
    ∷ leavings_conditions P (leavings_to target c) c

unfoldable pub abandon : Program → ℤ → Config → Checked Config
abandon P target c = guard (abandon_conditions P target c) (left_times P (leavings_to target c) c)

-- ---- raw access

abbrev pub raw_conditions : Program → ℤ → Config → Conditions
raw_conditions P a c = (sound P c otherwise 13) ∷ (below a (count_of c) otherwise 15) ∷ []

unfoldable pub raw_read : Program → ℤ → Config → Checked ℕ
raw_read P a c = guard (raw_conditions P a c) (get_or c.cells (natural a) 0)

unfoldable pub raw_write : Program → ℤ → ℕ → Config → Checked Config
raw_write P a v c = guard (raw_conditions P a c) (with_cells c (set c.cells (natural a) v))

-- ---- match settings written together, document 02's R-9: "pairs of address and value" in one list of numbers, in turn

-- "Up to 64 pairs"
abbrev pub most_pairs : ℕ
most_pairs = 64

-- "The refusal is that of the first bad pair": the raw write's of its address; its value must be one of a cell, of 32 bits
unfoldable pub pair_conditions : ℕ → List ℤ → Conditions
pair_conditions count [] = []
pair_conditions count (a ∷ []) = []
pair_conditions count (a ∷ v ∷ numbers) = (below a count otherwise 15) ∷ (below v 4294967296 otherwise 15) ∷ pair_conditions count numbers

-- "15 for more than 64 pairs or an unpaired number"
unfoldable pub pairs_conditions : ℕ → List ℤ → Conditions
pairs_conditions count numbers =
    (eqb (length numbers % 2) 0 otherwise 15) ∷ (leb (length numbers) (2 * most_pairs) otherwise 15) ∷ pair_conditions count numbers

-- in their order, so that "of two pairs with one address the later holds"
unfoldable pub pairs_written : List ℤ → List ℕ → List ℕ
pairs_written [] cells = cells
pairs_written (a ∷ []) cells = cells
pairs_written (a ∷ v ∷ numbers) cells = pairs_written numbers (set cells (natural a) (natural v))

abbrev pub write_all_conditions : Program → List ℤ → Config → Conditions
write_all_conditions P numbers c = (sound P c otherwise 13) ∷ pairs_conditions (count_of c) numbers

-- "written in one operation, all or none"
unfoldable pub write_all : Program → List ℤ → Config → Checked Config
write_all P numbers c = guard (write_all_conditions P numbers c) (with_cells c (pairs_written numbers c.cells))
