-- CHANGE REQUESTS OF DOCUMENT 02: one row or two of each that changed what a statement or a load does, R-1 apart (Rounding). The whole of them is in `crates/rows`:
-- what stands here is what a wrong definition is refused by in this crate.
use Rattle.std.specs.Prelude.{ℕ, List, [], ◌∷◌, ℤ, pos, take, replicate, T}
use Rattle.definition.specs.declared.Settings.{Settings}
use Rattle.definition.specs.Checks.{refused, accepted}
use Rattle.definition.specs.File.{Contents, check_number, standard}
use Rattle.definition.specs.Cells.{void, string}
use Rattle.definition.specs.Strings.{up_to_zero, same_text, text_access}
use Rattle.definition.specs.Statements.{strings_effect, negates_s_effect}
use Rattle.definition.specs.Load.{load, program_of}
use Rattle.definition.specs.Operations.{pair_conditions, pairs_conditions, pairs_written, write_all}
use Rattle.definition.specs.Starred.{assembled, op, return, define, plain, typed_program, program, numbered, cells_with, Seen, and_then, Scenario, state, cells, enter, complete, run_by, every_operation, fn, from}
use Rattle.definition.specs.Starred.{Row, row, all, computing}

-- a load with one entity, whose cells are 7, and what is seen of the first two after it
abbrev with_entity : Contents → (Scenario → Scenario) → Seen
with_entity k rest =
    let file = assembled k in
    let fields : Scenario = λ P c. accepted (take 2 c.entities) in
    and_then (load standard file (pos 1) (replicate 64 0) (replicate 2048 0) (replicate 105 7)) (rest fields (program_of file))

-- two empty texts: of string number 0, and of 1
abbrev empty_texts : Contents
empty_texts =
    let k = program (op 46 28 0 30 ∷ []) (plain ∷ []) (cells_with 28 (1 ∷ [])) in
    record {
      statements = k.statements;
      globaldefs = k.globaldefs;
      fielddefs = k.fielddefs;
      functions = k.functions;
      strings = 0 ∷ 0 ∷ [];
      globals = k.globals;
      entityfields = k.entityfields;
    }

abbrev writing : List ℤ → Scenario → Scenario
writing numbers rest P c = and_then (write_all P numbers c) (rest P)

-- a load under these settings
abbrev pub under : Settings → List ℕ → Scenario → Seen
under s file rest = and_then (load s file (pos 0) (replicate 64 0) (replicate 2048 0) []) (rest (program_of file))

-- the smallest: depth 1, no saved cell, runs of one statement
abbrev smallest : Settings
smallest = record { check_number = check_number; depth = 1; saved = 0; limit = 1 }

-- function 1 has no locals and function 2 has one; two statements
abbrev two : List ℕ
two = assembled (program (op 61 1 0 0 ∷ op 61 1 0 0 ∷ []) (plain ∷ fn 1 30 1 0 [] ∷ []) numbered)

-- a state that a host made up: these settings
abbrev pub settled : Settings → Scenario → Scenario
settled s rest P c =
    let t = c.state in
    rest P
    (record {
      state =
          record {
            file = t.file;
            settings = s;
            pc = t.pc;
            function = t.function;
            depth = t.depth;
            saved = t.saved;
            entity_count = t.entity_count;
            frames = t.frames;
          };
      cells = c.cells;
      saved = c.saved;
      entities = c.entities;
    })

abbrev pub requests : List Row
requests =
    row "R-3: the other lent entity cells are untouched, by a load too" (with_entity (program [] [] numbered) (λ fields. fields)) (accepted (7 ∷ 7 ∷ []))
    ∷ row "R-3: a Return touches none" (with_entity (program (return 0 0 0 ∷ []) (plain ∷ []) numbered) (λ fields. enter 1 (complete fields))) (accepted (7 ∷ 7 ∷ []))
    ∷ row "R-4: a string number not below the string length is refused 33"
    (from (program (op 12 28 29 30 ∷ []) (plain ∷ []) (cells_with 28 (0 ∷ 1 ∷ []))) (enter 1 (complete state))) (refused 33)
    ∷ row "R-4: equal operands of EqS are still answered unread"
    (from (program (op 12 28 28 30 ∷ []) (plain ∷ []) (cells_with 28 (5 ∷ []))) (enter 1 (complete (cells 1 30)))) (accepted (0x3f800000 ∷ []))
    ∷ row "R-4: NotS is 1.0 for an empty string" (from empty_texts (enter 1 (complete (cells 1 30)))) (accepted (0x3f800000 ∷ []))
    ∷ row "R-5: void definitions are passed over"
    (from (typed_program (define void 30 ∷ define string 30 ∷ []) (op 31 30 31 0 ∷ []) (plain ∷ []) numbered) (enter 1 (complete state))) (refused 16)
    ∷ row "R-9: of two pairs with one address the later holds"
    (from (program [] [] numbered) (writing (pos 40 ∷ pos 7 ∷ pos 40 ∷ pos 9 ∷ []) (cells 1 40))) (accepted (9 ∷ []))
    ∷ row "R-11: Settings out of range are refused 36, before the file is looked at"
    (under (record { check_number = check_number; depth = 32; saved = 0; limit = 1 }) [] state) (refused 36)
    ∷ row "R-11: refusal 22 uses the greatest depth" (under smallest two (enter 1 (enter 1 state))) (refused 22)
    ∷ row "R-11: refusal 23 uses the greatest saved count" (under smallest two (enter 2 state)) (refused 23)
    ∷ row "R-11: refusal 28 uses the greatest run limit"
    (under smallest two (enter 1 (run_by (pos 0) (pos 2) (run_by (pos 0) (pos 1) state)))) (accepted (28 ∷ 0 ∷ 0 ∷ 1 ∷ 2 ∷ 1 ∷ 1 ∷ 0 ∷ []))
    ∷ row "R-11: check 13 uses the greatest saved count" (under standard two (enter 2 (settled smallest every_operation))) (accepted (replicate 7 13))
    ∷ row "R-11: check 13 uses the greatest depth"
    (under standard two (enter 1 (enter 1 (settled (record { check_number = 0; depth = 1; saved = 2048; limit = 1 }) every_operation)))) (accepted (replicate 7 13))
    ∷ row "R-11: Settings out of range are refused 13 in a state"
    (under standard two (settled (record { check_number = 0; depth = 1; saved = 0; limit = 0 }) every_operation)) (accepted (replicate 7 13))
    ∷ []

pub requests_hold : T (all requests)
unfolding computing strings_effect negates_s_effect up_to_zero same_text text_access pair_conditions pairs_conditions pairs_written write_all
requests_hold = tt
