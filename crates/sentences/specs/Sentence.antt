-- OUTCOME SENTENCES. Document 02, R-8: "Each run outcome is composed into the line `Run WORD, detail D, statements N, position P, function F.`"
use Rattle.std.specs.Prelude.{ℕ, List, [], ◌∷◌, ◌++◌, cond, eqb, leb, ℤ, length, drop}
use Prim.Native.String.{String}
use Rattle.definition.specs.declared.RunAnswer.{RunAnswer}
use Rattle.definition.specs.Checks.{Conditions, ◌otherwise◌, guard}
use Rattle.definition.specs.Machine.{Ran}
use Rattle.definition.specs.Answers.{Word, ended, spent, refused_word, builtin, opcode, letters, outcome_word, outcome_detail}
use Rattle.definition.specs.Written.{WriteOutcome, write_outcome, placed}
use Rattle.text.specs.Text.{ascii, comma, decimal, signed_decimal}
use Rattle.text.specs.ReadBack.{word_of, number, signed_number, up_to, past}

-- ---- the line

-- "The five": what a line says
pub record Five : Type 0 where
  pub word : Word
  pub detail : ℕ
  pub count : ℕ
  pub position : ℤ
  pub function : ℕ

abbrev pub five : Word → ℕ → ℕ → ℤ → ℕ → Five
five word detail count position function =
    record { word = word; detail = detail; count = count; position = position; function = function }

-- of a run's outcome: "the show program's outcome word", its detail, and the statements, position and function beside it
abbrev pub five_of : RunAnswer → ℕ → ℤ → ℕ → Five
five_of answer count position function = five (outcome_word answer) (outcome_detail answer) count position function

-- of a run: position and function are those of the state that it leaves
abbrev pub five_after : Ran → Five
five_after r = five_of r.answer r.count r.config.state.pc r.config.state.function

-- texts one behind the other
abbrev pub joined : List (List ℕ) → List ℕ
joined [] = []
joined (text ∷ texts) = text ++ joined texts

-- "the line `Run WORD, detail D, statements N, position P, function F.`, .. without a line end, with the show program's outcome word and decimal numbers"
unfoldable pub sentence : Five → List ℕ
sentence x =
    joined
    (ascii "Run "
    ∷ letters x.word
    ∷ ascii ", detail "
    ∷ decimal x.detail
    ∷ ascii ", statements "
    ∷ decimal x.count
    ∷ ascii ", position "
    ∷ signed_decimal x.position
    ∷ ascii ", function "
    ∷ decimal x.function
    ∷ ascii "."
    ∷ [])

-- ---- "The five can be worked out from the line"

abbrev stop : ℕ
stop = 46

abbrev behind : String → List ℕ → List ℕ
behind name l = drop (length (ascii name)) l

-- each stands behind its name, up to a comma, and the last one up to the stop
abbrev pub read_sentence : List ℕ → Five
read_sentence l =
    let word = behind "Run " l in
    let detail = behind " detail " (past comma word) in
    let count = behind " statements " (past comma detail) in
    let position = behind " position " (past comma count) in
    let function = behind " function " (past comma position) in
    record {
      word = word_of (up_to comma word);
      detail = number 10 (up_to comma detail);
      count = number 10 (up_to comma count);
      position = signed_number (up_to comma position);
      function = number 10 (up_to stop function);
    }

-- ---- into a lent display buffer

-- "at most 120 bytes"
abbrev pub display_length : ℕ
display_length = 120

-- "A display buffer under 120 bytes takes the existing refusal 12"
abbrev pub display_conditions : ℕ → Conditions
display_conditions room = (leb display_length room otherwise 12) ∷ []

-- what is answered, and the display buffer after it: "its length is given"; a buffer that is refused "is untouched". The line stands at the front (01: "A
-- buffer written in part keeps the rest").
unfoldable pub displayed : Five → List ℕ → WriteOutcome
displayed x display = write_outcome display (guard (display_conditions (length display)) (placed (sentence x) display))

-- ---- an outcome in numbers

-- the word of a number that a host gives, in the numbers of a list of calls: 1 ended, 2 spent, 3 refused, 4 builtin, 5 opcode; any other is taken for
-- refused
unfoldable pub word_numbered : ℕ → Word
word_numbered n =
    cond (eqb n 1) ended (cond (eqb n 2) spent (cond (eqb n 4) builtin (cond (eqb n 5) opcode refused_word)))

abbrev pub five_numbered : ℕ → ℕ → ℕ → ℤ → ℕ → Five
five_numbered word detail count position function = five (word_numbered word) detail count position function
