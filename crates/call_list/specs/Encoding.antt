-- A LIST OF CALLS IN NUMBERS: three to a call (what it is, and up to two arguments), and three to its answer (word, detail, count). Beside the list stand the
-- numbers of its pairs that are written together. What performing a list leaves is the definition's calls, one after the other.
use Rattle.std.specs.Prelude.{ℕ, ◌+◌, ◌-◌, ◌/◌, ◌%◌, List, [], ◌∷◌, ◌++◌, Bool, true, ◌&&◌, ◌||◌, cond, ℤ, pos, length, ◌≤◌, ⊤, Result, Ok, Err, get_or, take, drop, eqb, leb, ltb}
use Rattle.std.proofs.lemmas.List.Edits.{sets}
use Rattle.definition.specs.declared.refusal.Refusal.{Refusal}
use Rattle.definition.specs.declared.StatementAnswer.{StatementAnswer}
use Rattle.definition.specs.declared.RunAnswer.{RunAnswer}
use Rattle.definition.specs.declared.Handover.{Handover}
use Rattle.definition.specs.File.{records}
use Rattle.definition.specs.Statements.{place_of}
use Rattle.definition.specs.Machine.{Program, with_unpacked, Config}
use Rattle.definition.specs.Operations.{natural, below, host_enter, statement, run, carry_on, abandon, raw_read, raw_write, write_all}
use Rattle.definition.specs.Checks.{Checked, refused, accepted}
use Rattle.definition.specs.Refusals.{checked}
use Rattle.definition.specs.Answers.{statement_outcome}
use Rattle.definition.specs.Answers.{Word, ended, spent, completed_word, refused_word, builtin, opcode, handover_word, handover_number, outcome_word, outcome_detail, statement_word, statement_detail}
use Rattle.definition.specs.Calls.{Call, enters, steps, runs, runs_unpacked, carries, abandons, reads, writes, writes_all, lends, after}
use Rattle.progs.specs.declared.ExecutionContext.{ExecutionContext}
use Rattle.progs.specs.Contexts.{config}
use Rattle.call_list.specs.declared.Malformed.{Malformed}
use Rattle.call_list.specs.declared.Call as code
use Rattle.call_list.specs.declared.Call.TheVariants.{Enter, Step, Run, CarryOn, Abandon, Read, Write, WriteAll}
use Rattle.call_list.specs.declared.Replied.{Replied}

-- ---- a call

-- 6 write, 7 pairs written together: of `numbers` those from a on, as many as b says
abbrev pub write_numbered : List ℤ → ℕ → ℤ → ℤ → Call
write_numbered numbers k a b = cond (eqb k 6) (writes a (natural b)) (writes_all (take (natural b) (drop (natural a) numbers)))

-- 0 entry, 1 statement, 2 run, 3 carry on, 4 abandonment, 5 read. (Other entity cells are lent between lists, and the second
-- engine has runs of its own: `lends` and `runs_unpacked` have no numbers.)
abbrev pub call_numbered : List ℤ → ℕ → ℤ → ℤ → Call
call_numbered numbers k a b =
    cond (eqb k 0) (enters a)
    (cond (eqb k 1) steps
    (cond (eqb k 2) (runs a b)
    (cond (eqb k 3) carries
    (cond (eqb k 4) (abandons a)
    (cond (eqb k 5) (reads a) (write_numbered numbers k a b))))))

abbrev pub kind_in : List ℤ → ℕ → ℕ
kind_in list at = place_of 8 (get_or list at (pos 0))

-- the call whose numbers are at a place
unfoldable pub call_in : List ℤ → List ℤ → ℕ → Call
call_in list numbers at = call_numbered numbers (kind_in list at) (get_or list (at + 1) (pos 0)) (get_or list (at + 2) (pos 0))

-- a value to be written is a cell's; numbers of pairs are there
abbrev pub write_formed : List ℤ → ℕ → ℤ → ℤ → Bool
write_formed numbers k a b = cond (eqb k 6) (below b 4294967296) (below a (length numbers + 1) && below b (length numbers + 1 - natural a))

-- it is one of the eight, and what it is to write is well formed
unfoldable pub formed_numbered : List ℤ → ℕ → ℤ → ℤ → Bool
formed_numbered numbers k a b = ltb k 8 && (ltb k 6 || write_formed numbers k a b)

unfoldable pub formed_at : List ℤ → List ℤ → ℕ → Bool
formed_at list numbers at = formed_numbered numbers (kind_in list at) (get_or list (at + 1) (pos 0)) (get_or list (at + 2) (pos 0))

unfoldable pub all_true : List Bool → Bool
all_true [] = true
all_true (b ∷ bs) = b && all_true bs

-- beside room for so many answer numbers
unfoldable pub well_formed : List ℤ → List ℤ → ℕ → Bool
well_formed list numbers room = eqb (length list % 3) 0 && leb (length list) room && all_true (records (formed_at list numbers) 3 (length list / 3) 0)

abbrev pub decoded : List ℤ → List ℤ → List Call
decoded list numbers = records (call_in list numbers) 3 (length list / 3) 0

-- ---- an answer

pub record Reply : Type 0 where
  pub word : ℕ
  pub detail : ℕ
  pub count : ℕ

-- 0 is for what is accepted or completed
abbrev pub word_number : Word → ℕ
word_number completed_word = 0
word_number ended = 1
word_number spent = 2
word_number refused_word = 3
word_number builtin = 4
word_number opcode = 5

abbrev pub reply_of : Word → ℕ → ℕ → Reply
reply_of w detail count = record { word = word_number w; detail = detail; count = count }

abbrev pub refused_reply : ℕ → Reply
refused_reply n = reply_of refused_word n 0

-- the detail is the number of the refusal, or what the operation gives
abbrev pub given_reply : {A : Type 0} → (A → ℕ) → Checked A → Reply
given_reply detail (refused n) = refused_reply n
given_reply detail (accepted a) = reply_of completed_word (detail a) 0

abbrev pub answer_reply : {A : Type 0} → Checked A → Reply
answer_reply x = given_reply (λ a. 0) x

abbrev pub value_reply : Checked ℕ → Reply
value_reply x = given_reply (λ v. v) x

abbrev pub handover_reply : Handover → ℕ → Reply
handover_reply h count = reply_of (handover_word h) (handover_number h) count

abbrev pub statement_reply : StatementAnswer → Reply
statement_reply a = reply_of (statement_word a) (statement_detail a) 0

abbrev pub run_reply : RunAnswer → ℕ → Reply
run_reply a count = reply_of (outcome_word a) (outcome_detail a) count

unfoldable pub reply : Program → Call → Config → Reply
reply P (enters f) c = answer_reply (host_enter P f c)
reply P steps c = statement_reply (statement_outcome c (statement P c)).answer
reply P (runs target limit) c = run_reply (run P target limit c).answer (run P target limit c).count
reply P (runs_unpacked buffer target limit) c = let ran = run (with_unpacked P buffer) target limit c in run_reply ran.answer ran.count
reply P carries c = answer_reply (carry_on P c)
reply P (abandons target) c = answer_reply (abandon P target c)
reply P (reads a) c = value_reply (raw_read P a c)
reply P (writes a v) c = answer_reply (raw_write P a v c)
reply P (writes_all numbers) c = answer_reply (write_all P numbers c)
reply P (lends entities) c = reply_of completed_word 0 0

-- ---- a list, "each later one what the call before it left"

unfoldable pub after_all : Program → List Call → Config → Config
after_all P [] c = c
after_all P (k ∷ ks) c = after_all P ks (after P k c)

abbrev pub numbers : Reply → List ℕ
numbers r = r.word ∷ r.detail ∷ r.count ∷ []

unfoldable pub replies : Program → List Call → Config → List ℕ
replies P [] c = []
replies P (k ∷ ks) c = numbers (reply P k c) ++ replies P ks (after P k c)

pub record Outcome : Type 0 where
  pub answer : Result (Unit {0}) Malformed
  pub config : Config
  pub answers : List ℕ

-- the answers stand at the front of their buffer; what is malformed is refused as a whole
unfoldable pub performed : Program → List ℤ → List ℤ → Config → List ℕ → Outcome
performed P list numbers c answers =
    let calls = decoded list numbers in
    cond (well_formed list numbers (length answers))
    (record { answer = Ok tt; config = after_all P calls c; answers = sets answers 0 (replies P calls c) })
    (record { answer = Err (record {}); config = c; answers = answers })

-- ---- what the code answers

pub record AfterCall : Type 0 where
  pub reply : Reply
  pub config : Config

abbrev pub answering : ExecutionContext → Reply → Replied
answering x r = record { context = x; word = r.word; detail = r.detail; count = r.count }

abbrev pub replied_of : Replied → List ℕ → List ℕ → List ℕ → AfterCall
replied_of r cells saved entities = record { reply = record { word = r.word; detail = r.detail; count = r.count }; config = config r.context cells saved entities }

abbrev pub after_call : Program → Call → Config → AfterCall
after_call P k c = record { reply = reply P k c; config = after P k c }

abbrev pub outcome_of : Result (Unit {0}) Malformed → ExecutionContext → List ℕ → List ℕ → List ℕ → List ℕ → Outcome
outcome_of r x answers cells saved entities = record { answer = r; config = config x cells saved entities; answers = answers }

-- an answer whose refusal is a number, whichever number it is
abbrev pub numbered_reply : Result (Unit {0}) ℕ → Reply
numbered_reply (Ok done) = reply_of completed_word 0 0
numbered_reply (Err n) = refused_reply n

abbrev pub numbered_read : Result ℕ ℕ → Reply
numbered_read (Ok v) = reply_of completed_word v 0
numbered_read (Err n) = refused_reply n

abbrev pub checked_reply : Result (Unit {0}) Refusal → Reply
checked_reply r = answer_reply (checked r)

abbrev pub read_reply : Result ℕ Refusal → Reply
read_reply r = value_reply (checked r)

-- a call as the code has it, whose pairs are some of the numbers
abbrev pub call_of : List ℤ → code.Call → Call
call_of numbers (Enter f) = enters f
call_of numbers Step = steps
call_of numbers (Run target limit) = runs target limit
call_of numbers CarryOn = carries
call_of numbers (Abandon target) = abandons target
call_of numbers (Read a) = reads a
call_of numbers (Write a v) = writes a v
call_of numbers (WriteAll first count) = writes_all (take count (drop first numbers))

abbrev pub IsWithin : List ℤ → code.Call → Type 0
IsWithin numbers (Enter f) = ⊤
IsWithin numbers Step = ⊤
IsWithin numbers (Run target limit) = ⊤
IsWithin numbers CarryOn = ⊤
IsWithin numbers (Abandon target) = ⊤
IsWithin numbers (Read a) = ⊤
IsWithin numbers (Write a v) = ⊤
IsWithin numbers (WriteAll first count) = first + count ≤ length numbers
