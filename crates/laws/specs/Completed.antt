-- What a completed statement is, by the file alone: entered exactly at a completed Call opcode of a function that is no builtin, left exactly at a
-- completed Return or Done; and what calls leave, refused ones too.
use Rattle.std.specs.Prelude.{ℕ, zero, suc, ◌≡◌, refl, List, ℤ, pos, ◌+ℤ◌, length}
use Rattle.std.proofs.Common.{sym, ◌∙◌, ap, arith}
use Rattle.definition.specs.declared.Handover.{Handover}
use Rattle.definition.specs.Checks.{Condition, Conditions, judge, Checked, refused, accepted, decided, guard}
use Rattle.definition.specs.File.{contents_of}
use Rattle.definition.specs.Statements.{Does, next, puts, calls, returns, refuses, hands_over}
use Rattle.definition.specs.Machine.{Program, with_unpacked, Config, entities_of, advanced, entry_conditions, entered, return_conditions, returned, Stepped, completed, refused_step, handed_step, as_step, step_as, step, Ran, run_as, run_for}
use Rattle.definition.specs.Load.{program_of}
use Rattle.definition.specs.Operations.{natural, host_enter, statement, run_conditions, run_after, run, carry_on, abandon, raw_read, raw_write, write_all}
use Rattle.definition.specs.Answers.{statement_outcome}
use Rattle.definition.specs.Calls.{Call, enters, steps, runs, runs_unpacked, carries, abandons, reads, writes, writes_all, lends, after}
use Rattle.definition.specs.Log.{Kind, entry, leaving, other, statement_kind}
use Rattle.definition.specs.StatementLaws.{HasKind, before_in}
use Rattle.definition.proofs.StatementLaws.{statement_has_kind}

-- c' is the result of a completed statement of that kind from c
abbrev pub ResultOf : List ℕ → Config → Config → Kind → Type 0
ResultOf file c c' (entry f back) = c' ≡ entered (program_of file) f back c
ResultOf file c c' leaving = (a : ℕ) × (c' ≡ returned (program_of file) a c)
ResultOf file c c' other = c' ≡ advanced c c'.state.pc c'.cells c'.entities

accepted_result : (cs : Conditions) (a c' : Config) → as_step (guard cs a) ≡ completed c' → c' ≡ a
unfolding guard
accepted_result cs a c' = go (judge cs)
  where
    go : (n : ℕ) → as_step (decided n a) ≡ completed c' → c' ≡ a
    go zero e = cc
    go (suc n) e = absurd (let z : ◌≡◌ {A = ℕ} 0 1 = cc in omega arith)

result_of_law : (file : List ℕ) (c c' : Config) (κ : Kind) (x : Does) → HasKind (before_in file c.state.pc (entities_of c) c.cells) κ x
    → step_as (program_of file) x c ≡ completed c' → ResultOf file c c' κ
unfolding step_as
result_of_law file c c' κ (next p cells) (o, keeps) e =
    rw o (let s : advanced c p cells c.entities ≡ c' = cc in sym s ∙ ap (λ (y : Config). advanced c y.state.pc y.cells y.entities) s)
result_of_law file c c' κ (puts p entities) (o, keeps) e =
    rw o (let s : advanced c p c.cells entities ≡ c' = cc in sym s ∙ ap (λ (y : Config). advanced c y.state.pc y.cells y.entities) s)
result_of_law file c c' κ (calls f) is e = rw is (accepted_result (entry_conditions (program_of file) f c) (entered (program_of file) f (c.state.pc +ℤ pos 1) c) c' e)
result_of_law file c c' κ (returns a) is e = rw is (a, accepted_result (return_conditions (program_of file) a c) (returned (program_of file) a c) c' e)
result_of_law file c c' κ (refuses n) is e = absurd (let z : ◌≡◌ {A = ℕ} 0 1 = cc in omega arith)
result_of_law file c c' κ (hands_over h) is e = absurd (let z : ◌≡◌ {A = ℕ} 0 1 = cc in omega arith)

pub completed_is : (file : List ℕ) (c c' : Config) → step (program_of file) c ≡ completed c' → ResultOf file c c' (statement_kind file c.state.pc c.cells)
unfolding step
completed_is file c c' e =
    result_of_law file c c' (statement_kind file c.state.pc c.cells) ((program_of file).does c.state.pc (entities_of c) c.cells)
    (statement_has_kind file c.state.pc (entities_of c) c.cells) e

-- ---- what calls leave

-- the call is refused; of a run: it completes nothing
abbrev pub RefusedCall : Program → Call → Config → Type 0
RefusedCall P (enters f) c = (n : ℕ) × (host_enter P f c ≡ refused n)
RefusedCall P steps c = (n : ℕ) × (statement P c ≡ refused_step n)
RefusedCall P (runs target limit) c = (run P target limit c).count ≡ 0
RefusedCall P (runs_unpacked buffer target limit) c = (run (with_unpacked P buffer) target limit c).count ≡ 0
RefusedCall P carries c = (n : ℕ) × (carry_on P c ≡ refused n)
RefusedCall P (abandons target) c = (n : ℕ) × (abandon P target c ≡ refused n)
RefusedCall P (reads a) c = Unit {0}
RefusedCall P (writes a v) c = (n : ℕ) × (raw_write P a v c ≡ refused n)
RefusedCall P (writes_all numbers) c = (n : ℕ) × (write_all P numbers c ≡ refused n)
-- a lending is never refused
RefusedCall P (lends entities) c = ⊥

-- a run that completed no statement changed nothing
none_step : (s : Stepped) (target : ℕ) (c : Config) (rest : Config → Ran) → (run_as s target c rest).count ≡ 0 → (run_as s target c rest).config ≡ c
none_step (completed c') target c rest e = absurd (omega arith)
none_step (refused_step n) target c rest e = refl
none_step (handed_step h) target c rest e = refl

none_run : (P : Program) (n target : ℕ) (c : Config) → (run_for P n target c).count ≡ 0 → (run_for P n target c).config ≡ c
unfolding run_for
none_run P zero target c e = refl
none_run P (suc n) target c e = none_step (step P c) target c (λ c'. run_for P n target c') e

none_after : (m : ℕ) (P : Program) (target limit : ℕ) (c : Config) → (run_after m P target limit c).count ≡ 0 → (run_after m P target limit c).config ≡ c
none_after zero P target limit c e = none_run P limit target c e
none_after (suc m) P target limit c e = refl

none_all : (P : Program) (target limit : ℤ) (c : Config) → (run P target limit c).count ≡ 0 → (run P target limit c).config ≡ c
unfolding run
none_all P target limit c e = none_after (judge (run_conditions P target limit c)) P (natural target) (natural limit) c e

-- a refusal leaves state, cells, saved store and entity cells; of a run, those after its last completed statement, which are the last of its trace
pub refusal_leaves : (P : Program) (k : Call) (c : Config) → RefusedCall P k c → after P k c ≡ c
unfolding after
refusal_leaves P (enters f) c (n, e) = rw e
refusal_leaves P steps c (n, e) = ap (λ (s : Stepped). (statement_outcome c s).config) e
refusal_leaves P (runs target limit) c e = none_all P target limit c e
refusal_leaves P (runs_unpacked buffer target limit) c e = none_all (with_unpacked P buffer) target limit c e
refusal_leaves P carries c (n, e) = rw e
refusal_leaves P (abandons target) c (n, e) = rw e
refusal_leaves P (reads a) c u = refl
refusal_leaves P (writes a v) c (n, e) = rw e
refusal_leaves P (writes_all numbers) c (n, e) = rw e
refusal_leaves P (lends entities) c e = absurd e

pub handover_leaves : (P : Program) (c : Config) (h : Handover) → statement P c ≡ handed_step h → after P steps c ≡ c
unfolding after
handover_leaves P c h e = ap (λ (s : Stepped). (statement_outcome c s).config) e
