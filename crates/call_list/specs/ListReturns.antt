-- DEMAND 3 FOR A LIST OF ENCODED CALLS: after an accepted load, what performing the list goes through is what demand 3 speaks of, and it ends where
-- the claim ends.
use Rattle.std.specs.Prelude.{ℕ, zero, suc, ◌+◌, ◌/◌, ◌≡◌, List, [], ◌∷◌, Bool, true, false, cond, eqb, ℤ, pos, length, get_or, take, drop}
use Rattle.definition.specs.declared.Settings.{Settings}
use Rattle.definition.specs.Checks.{accepted}
use Rattle.definition.specs.Machine.{Config}
use Rattle.definition.specs.Load.{load, program_of}
use Rattle.definition.specs.Operations.{natural}
use Rattle.definition.specs.Calls.{Call, enters, steps, runs, carries, abandons, reads, writes, writes_all, after, small_steps}
use Rattle.definition.specs.File.{records}
use Rattle.definition.specs.Unpacked.{Ready, AllReady}
use Rattle.definition.specs.Log.{Log}
use Rattle.definition.specs.Trace.{StepProperty, log_after_steps, Always}
use Rattle.definition.specs.Returns.{DepthsMatch, StepCorrect, Demand3}
use Rattle.definition.proofs.ReturnsProof.{demand3}
use Rattle.call_list.specs.Encoding.{call_numbered, kind_in, call_in, well_formed, decoded, after_all, Outcome, performed}

-- the log after all of a list
unfoldable pub log_all : List ℕ → List Call → Config → Log → Log
log_all file [] c l = l
log_all file (k ∷ ks) c l = log_all file ks (after (program_of file) k c) (log_after_steps file k c l (small_steps (program_of file) k c))

-- what holds after each call holds after the last
last : (file : List ℕ) (Step : StepProperty) (At : Config → Log → Type 0) (c : Config) (l : Log) (ks : List Call) → Always file Step At c l ks → At (after_all (program_of file) ks c) (log_all file ks c l)
unfolding after_all log_all
last file Step At c l [] t = t
last file Step At c l (k ∷ ks) t = last file Step At (after (program_of file) k c) (log_after_steps file k c l (small_steps (program_of file) k c)) ks t.3

-- no call in numbers is the second engine's
call_ready : (file : List ℕ) (numbers : List ℤ) (k : ℕ) (a b : ℤ) → Ready file (call_numbered numbers k a b)
call_ready file numbers k a b = by (eqb k 0) (eqb k 1) (eqb k 2) (eqb k 3) (eqb k 4) (eqb k 5) (eqb k 6)
  where
    by : (t0 t1 t2 t3 t4 t5 t6 : Bool)
        → Ready file
        (cond t0 (enters a) (cond t1 steps (cond t2 (runs a b) (cond t3 carries (cond t4 (abandons a) (cond t5 (reads a)
        (cond t6 (writes a (natural b)) (writes_all (take (natural b) (drop (natural a) numbers))))))))))
    by true t1 t2 t3 t4 t5 t6 = tt
    by false true t2 t3 t4 t5 t6 = tt
    by false false true t3 t4 t5 t6 = tt
    by false false false true t4 t5 t6 = tt
    by false false false false true t5 t6 = tt
    by false false false false false true t6 = tt
    by false false false false false false true = tt
    by false false false false false false false = tt

in_ready : (file : List ℕ) (list numbers : List ℤ) (at : ℕ) → Ready file (call_in list numbers at)
unfolding call_in
in_ready file list numbers at = call_ready file numbers (kind_in list at) (get_or list (at + 1) (pos 0)) (get_or list (at + 2) (pos 0))

decoded_ready : (file : List ℕ) (list numbers : List ℤ) (n at : ℕ) → AllReady file (records (call_in list numbers) 3 n at)
unfolding records
decoded_ready file list numbers zero at = tt
decoded_ready file list numbers (suc n) at = (in_ready file list numbers at, decoded_ready file list numbers n (at + 3))

-- "for every list of calls after one accepted load": of the configuration that performing the list leaves
pub list_returns : (s : Settings) (file : List ℕ) (n : ℤ) (cells saved entities : List ℕ) (c : Config) → load s file n cells saved entities ≡ accepted c
    → (list numbers : List ℤ) (answers : List ℕ) (o : Outcome) → well_formed list numbers (length answers) ≡ true → o ≡ performed (program_of file) list numbers c answers
    → Always file (StepCorrect s file) (DepthsMatch s file) c [] (decoded list numbers) × DepthsMatch s file o.config (log_all file (decoded list numbers) c [])
unfolding performed Demand3
list_returns s file n cells saved entities c e list numbers answers o w p =
    let calls = decoded list numbers in
    let always = demand3 s file n cells saved entities c e calls (decoded_ready file list numbers (length list / 3) 0) in
    (always, rw (p, w) (last file (StepCorrect s file) (DepthsMatch s file) c [] calls always))
