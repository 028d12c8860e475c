-- The numbers of a list, one call after the other.
use Rattle.std.proofs.Common.{ℕ, suc, ◌+◌, ◌*◌, ◌-◌, ◌<◌, ◌≤◌, ◌≡◌, sym, ◌∙◌, ap, subst, List, [], ◌∷◌, Bool, true, false, arith, le-ltb, ℤ, set}
use Rattle.std.proofs.lemmas.List.Edits.{sets}
use Rattle.definition.specs.File.{records}
use Rattle.definition.specs.Machine.{Program, Config}
use Rattle.definition.proofs.CheckLaws.{and_left, and_right}
use Rattle.definition.specs.Calls.{Call, after}
use Rattle.progs.specs.Contexts.{config}
use Rattle.call_list.specs.declared.Replied.{Replied}
use Rattle.call_list.specs.declared.Call as code
use Rattle.call_list.specs.Encoding.{call_in, call_of, formed_numbered, all_true, Reply, reply, after_all, numbers, replies, AfterCall, replied_of, after_call}

-- ---- one call

pub no_call : (numbers : List ℤ) (kind : ℕ) (a b : ℤ) → 8 ≤ kind → false ≡ formed_numbered numbers kind a b
unfolding formed_numbered
no_call numbers kind a b h = rw (le-ltb kind 8 h)

-- ---- the calls that are left

module _ {A : Type 0} (read : ℕ → A) (n i : ℕ) (h : i < n) where
  pub records_on : records read 3 (n - i) (3 * i) ≡ read (3 * i) ∷ records read 3 (n - (i + 1)) (3 * (i + 1))
  unfolding records
  records_on =
      let a : n - i ≡ suc (n - (i + 1)) = omega arith in
      let b : 3 * i + 3 ≡ 3 * (i + 1) = omega arith in
      rw (a, b)

pub records_none : {A : Type 0} (read : ℕ → A) (n i : ℕ) → n ≤ i → records read 3 (n - i) (3 * i) ≡ []
unfolding records
records_none read n i h = let a : n - i ≡ 0 = omega arith in rw a

module _ (formed : ℕ → Bool) (n i : ℕ) (h : i < n) where
  pub formed_stops : formed (3 * i) ≡ false → false ≡ all_true (records formed 3 (n - i) (3 * i))
  unfolding all_true
  formed_stops f = rw (records_on formed n i h, f)

  pub formed_on : formed (3 * i) ≡ true → all_true (records formed 3 (n - (i + 1)) (3 * (i + 1))) ≡ all_true (records formed 3 (n - i) (3 * i))
  unfolding all_true
  formed_on f = rw (records_on formed n i h, f)

  pub formed_here : all_true (records formed 3 (n - i) (3 * i)) ≡ true → (formed (3 * i) ≡ true) × (all_true (records formed 3 (n - (i + 1)) (3 * (i + 1))) ≡ true)
  unfolding all_true
  formed_here t = let u = rw (records_on formed n i h) at t in (and_left (formed (3 * i)) (all_true (records formed 3 (n - (i + 1)) (3 * (i + 1)))) u, and_right (formed (3 * i)) (all_true (records formed 3 (n - (i + 1)) (3 * (i + 1)))) u)

pub formed_end : (formed : ℕ → Bool) (n i : ℕ) → n ≤ i → true ≡ all_true (records formed 3 (n - i) (3 * i))
unfolding all_true
formed_end formed n i h = rw (records_none formed n i h)

-- what is left of a list, from where it is, gives what all of it gives from the start
pub record Left (P : Program) (read : ℕ → Call) (n : ℕ) (c₀ c : Config) (answers₀ answers : List ℕ) (i : ℕ) : Type 0 where
  pub config_is : after_all P (records read 3 (n - i) (3 * i)) c ≡ after_all P (records read 3 n 0) c₀
  pub answers_are : sets answers (3 * i) (replies P (records read 3 (n - i) (3 * i)) c) ≡ sets answers₀ 0 (replies P (records read 3 n 0) c₀)

pub left_start : (P : Program) (read : ℕ → Call) (n : ℕ) (c : Config) (answers : List ℕ) → Left P read n c c answers answers 0
left_start P read n c answers = let a : n - 0 ≡ n = omega arith in record { config_is = rw a; answers_are = rw a }

module _ (P : Program) (read : ℕ → Call) (n : ℕ) (c₀ c : Config) (answers₀ answers : List ℕ) (i : ℕ) (l : Left P read n c₀ c answers₀ answers i) where
  pub left_on : i < n → (c' : Config) (r : Reply) → c' ≡ after P (read (3 * i)) c → r ≡ reply P (read (3 * i)) c
      → Left P read n c₀ c' answers₀ (set (set (set answers (3 * i) r.word) (3 * i + 1) r.detail) (3 * i + 2) r.count) (i + 1)
  unfolding after_all replies
  left_on h c' r e f =
      let b : 3 * (i + 1) ≡ suc (suc (suc (3 * i))) = omega arith in
      let b1 : 3 * i + 1 ≡ suc (3 * i) = omega arith in
      let b2 : 3 * i + 2 ≡ suc (suc (3 * i)) = omega arith in
      record {
        config_is = rw e (rw (records_on read n i h) at l.config_is);
        answers_are = rw (e, f, b1, b2) (subst (λ (k : ℕ). sets (set (set (set answers (3 * i) (reply P (read (3 * i)) c).word) (suc (3 * i)) (reply P (read (3 * i)) c).detail) (suc (suc (3 * i))) (reply P (read (3 * i)) c).count) k (replies P (records read 3 (n - (i + 1)) (3 * (i + 1))) (after P (read (3 * i)) c)) ≡ sets answers₀ 0 (replies P (records read 3 n 0) c₀)) (sym b) (rw (records_on read n i h) at l.answers_are));
      }

  pub left_end : n ≤ i → (c ≡ after_all P (records read 3 n 0) c₀) × (answers ≡ sets answers₀ 0 (replies P (records read 3 n 0) c₀))
  unfolding after_all replies
  left_end h = (rw (records_none read n i h) at l.config_is, rw (records_none read n i h) at l.answers_are)

pub formed_start : (formed : ℕ → Bool) (n : ℕ) → all_true (records formed 3 (n - 0) (3 * 0)) ≡ all_true (records formed 3 n 0)
formed_start formed n = let a : n - 0 ≡ n = omega arith in rw a

-- the call that is performed is the one whose numbers are there
pub left_replied : (P : Program) (list numbers : List ℤ) (n : ℕ) (c₀ c : Config) (answers₀ answers : List ℕ) (i : ℕ) → Left P (call_in list numbers) n c₀ c answers₀ answers i → i < n
    → (k : code.Call) → call_of numbers k ≡ call_in list numbers (3 * i)
    → (r : Replied) (cells saved entities : List ℕ) → replied_of r cells saved entities ≡ after_call P (call_of numbers k) c
    → Left P (call_in list numbers) n c₀ (config r.context cells saved entities) answers₀ (set (set (set answers (3 * i) r.word) (3 * i + 1) r.detail) (3 * i + 2) r.count) (i + 1)
left_replied P list numbers n c₀ c answers₀ answers i l h k f r cells saved entities e =
    let o : replied_of r cells saved entities ≡ after_call P (call_in list numbers (3 * i)) c = e ∙ ap (λ (z : Call). after_call P z c) f in
    left_on P (call_in list numbers) n c₀ c answers₀ answers i l h (config r.context cells saved entities) (replied_of r cells saved entities).reply
    (ap (λ (z : AfterCall). z.config) o)
    (ap (λ (z : AfterCall). z.reply) o)
