-- THE ANSWERS. Document 01: "When an answer is an enum, a definition gives this paper's number and values for each of its cases. The promises use that
-- definition." What an operation answers, with the configuration after it: a refusal leaves state and buffers.
use Rattle.std.specs.Prelude.{ℕ, List, [], ◌∷◌}
use Rattle.definition.specs.declared.Lump.{Lump}
use Rattle.definition.specs.declared.FileRecord.{FileRecord}
use Rattle.definition.specs.declared.Settings.{Settings}
use Rattle.definition.specs.declared.Handover.{Handover}
use Rattle.definition.specs.declared.Handover.TheVariants.{Builtin, Opcode}
use Rattle.definition.specs.declared.RunAnswer.{RunAnswer}
use Rattle.definition.specs.declared.RunAnswer.TheVariants as run
use Rattle.definition.specs.declared.StatementAnswer.{StatementAnswer}
use Rattle.definition.specs.declared.StatementAnswer.TheVariants as statement
use Rattle.definition.specs.Checks.{Checked, refused, accepted}
use Rattle.definition.specs.Machine.{State, Config, start_state, Stepped, completed, refused_step, handed_step}

-- ---- load, entry, carry on, abandon, raw write

pub data Answer : Type 0 where
  Accepted : Answer
  Refused : ℕ → Answer

pub record Outcome : Type 0 where
  pub answer : Answer
  pub config : Config

abbrev pub answer_of : {A : Type 0} → Checked A → Answer
answer_of (refused n) = Answer.Refused n
answer_of (accepted a) = Answer.Accepted

abbrev pub kept : Config → Checked Config → Config
kept c (refused n) = c
kept c (accepted c') = c'

abbrev pub outcome : Config → Checked Config → Outcome
outcome c x = record { answer = answer_of x; config = kept c x }

abbrev pub no_lump : Lump
no_lump = record { offset = 0; count = 0 }

-- the record of a file of which nothing is known but its number of cells
abbrev pub cells_alone : ℕ → FileRecord
cells_alone n =
    record {
      length = 0;
      statements = no_lump;
      globaldefs = no_lump;
      fielddefs = no_lump;
      functions = no_lump;
      strings = no_lump;
      globals = record { offset = 0; count = n };
      entityfields = 0;
    }

abbrev pub no_settings : Settings
no_settings = record { check_number = 0; depth = 0; saved = 0; limit = 0 }

-- a refused load gives a state of zeros, which every operation refuses 13, and leaves the buffers
abbrev pub no_state : State
no_state = start_state no_settings (cells_alone 0) 0

abbrev pub load_outcome : List ℕ → List ℕ → List ℕ → Checked Config → Outcome
load_outcome cells saved entities x = outcome (record { state = no_state; cells = cells; saved = saved; entities = entities }) x

-- the number of the refusal, 0 where there is none
abbrev pub refusal_number : Answer → ℕ
refusal_number Answer.Accepted = 0
refusal_number (Answer.Refused n) = n

-- ---- raw read, one statement

pub data ReadAnswer : Type 0 where
  Value : ℕ → ReadAnswer
  Refused : ℕ → ReadAnswer

abbrev pub read_answer : Checked ℕ → ReadAnswer
read_answer (refused n) = ReadAnswer.Refused n
read_answer (accepted v) = ReadAnswer.Value v

pub record StatementOutcome : Type 0 where
  pub answer : StatementAnswer
  pub config : Config

abbrev pub statement_outcome : Config → Stepped → StatementOutcome
statement_outcome c (completed c') = record { answer = statement.Completed; config = c' }
statement_outcome c (refused_step n) = record { answer = statement.Refused n; config = c }
statement_outcome c (handed_step h) = record { answer = statement.HandedOver h; config = c }

-- what was read, 0 where it was refused; and the number of the refusal, 0 where there is none
abbrev pub read_value : ReadAnswer → ℕ
read_value (ReadAnswer.Value v) = v
read_value (ReadAnswer.Refused n) = 0

abbrev pub read_refusal : ReadAnswer → ℕ
read_refusal (ReadAnswer.Value v) = 0
read_refusal (ReadAnswer.Refused n) = n

-- ---- a run: "outcome (ended, spent, refused, builtin or opcode), detail (a number, else 0)"

pub data Word : Type 0 where
  ended spent completed_word refused_word builtin opcode : Word

abbrev pub handover_word : Handover → Word
handover_word (Builtin n) = builtin
handover_word (Opcode n) = opcode

abbrev pub handover_number : Handover → ℕ
handover_number (Builtin n) = n
handover_number (Opcode n) = n

abbrev pub outcome_word : RunAnswer → Word
outcome_word run.Ended = ended
outcome_word run.Spent = spent
outcome_word (run.Refused n) = refused_word
outcome_word (run.HandedOver h) = handover_word h

abbrev pub outcome_detail : RunAnswer → ℕ
outcome_detail run.Ended = 0
outcome_detail run.Spent = 0
outcome_detail (run.Refused n) = n
outcome_detail (run.HandedOver h) = handover_number h

abbrev pub statement_word : StatementAnswer → Word
statement_word statement.Completed = completed_word
statement_word (statement.Refused n) = refused_word
statement_word (statement.HandedOver h) = handover_word h

abbrev pub statement_detail : StatementAnswer → ℕ
statement_detail statement.Completed = 0
statement_detail (statement.Refused n) = n
statement_detail (statement.HandedOver h) = handover_number h

-- the words in ASCII
abbrev pub letters : Word → List ℕ
letters ended = 101 ∷ 110 ∷ 100 ∷ 101 ∷ 100 ∷ []
letters spent = 115 ∷ 112 ∷ 101 ∷ 110 ∷ 116 ∷ []
letters completed_word = 99 ∷ 111 ∷ 109 ∷ 112 ∷ 108 ∷ 101 ∷ 116 ∷ 101 ∷ 100 ∷ []
letters refused_word = 114 ∷ 101 ∷ 102 ∷ 117 ∷ 115 ∷ 101 ∷ 100 ∷ []
letters builtin = 98 ∷ 117 ∷ 105 ∷ 108 ∷ 116 ∷ 105 ∷ 110 ∷ []
letters opcode = 111 ∷ 112 ∷ 99 ∷ 111 ∷ 100 ∷ 101 ∷ []
