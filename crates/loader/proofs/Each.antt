-- Conditions one behind the other, and those of a part's records. Assumes nothing.
use Rattle.std.proofs.Common.{ℕ, ◌<◌, ◌≤◌, ◌≡◌, refl, sym, ◌∙◌, List, ◌∷◌, ◌++◌, Bool, true, length, drop, arith, ne_eqb, length-append}
use Rattle.std.proofs.Math.Nat.{div-eq_of_lt, zero-add}
use Rattle.std.proofs.Math.ListN.{get_or-append}
use Rattle.std.proofs.Math.Seq.{drop-append_seam}
use Rattle.definition.specs.Checks.{Conditions, ◌otherwise◌, judge}
use Rattle.definition.specs.File.{byte_at, records}
use Rattle.definition.specs.Load.{each}
use Rattle.definition.proofs.CheckLaws.{judge_append}
use Rattle.functions.specs.Parts.{records_of}
use Rattle.functions.specs.PartLaws.{Local, records_more}

-- the first condition holds and the rest decide
pub holds : (b : Bool) (n : ℕ) (cs : Conditions) (r : ℕ) → b ≡ true → r ≡ judge cs → r ≡ judge ((b otherwise n) ∷ cs)
unfolding judge
holds b n cs r e h = rw e h

-- one list of conditions after another: the first refuses, or passes
pub judge_stop : (cs ds : Conditions) (r : ℕ) → (r ≡ 0 → ⊥) → r ≡ judge cs → r ≡ judge (cs ++ ds)
judge_stop cs ds r h e = rw (judge_append cs ds, ← e, ne_eqb r 0 h)

pub judge_next : (cs ds : Conditions) (r : ℕ) → judge cs ≡ 0 → r ≡ judge ds → r ≡ judge (cs ++ ds)
judge_next cs ds r h e = rw (judge_append cs ds, h) e

-- ---- the records of a part, from the front on

module _ {A : Type 0} (conditions : A → Conditions) (read : List ℕ → ℕ → A) (size : ℕ) where
  abbrev pub row : List ℕ → ℕ
  row part = judge (each conditions (records_of read size part))

  -- what is left of a part decides
  module _ (part : List ℕ) {whole : ℕ} (left : row part ≡ whole) where
    pub none_left : length part < size → 0 ≡ whole
    unfolding each records judge
    none_left h = rw (div-eq_of_lt h) at left

    -- a record that was read at its front decides, or those behind it do
    module _ (some : 0 < size) (own : Local read size) (bytes rest : List ℕ) (is : part ≡ bytes ++ rest) (one : length bytes ≡ size) {a : A} (as_read : a ≡ read bytes 0) where
      one_more : judge (conditions a ++ each conditions (records_of read size rest)) ≡ whole
      unfolding each byte_at
      one_more =
          let long : size ≤ length (bytes ++ rest) = omega (arith, length-append bytes rest) in
          let behind : drop size (bytes ++ rest) ≡ rest = rw (← one) (drop-append_seam bytes rest) in
          let here : read (bytes ++ rest) 0 ≡ a = own _ _ _ _ (record { byte = λ k l. rw zero-add (get_or-append bytes rest 0 k (omega arith)) }) ∙ sym as_read in
          rw (is, records_more read size own some (bytes ++ rest) long, here, behind) at left

      pub refuses : (n : ℕ) → (n ≡ 0 → ⊥) → n ≡ judge (conditions a) → n ≡ whole
      refuses n h e = judge_stop _ _ n h e ∙ one_more

      pub passes : 0 ≡ judge (conditions a) → row rest ≡ whole
      passes e = judge_next _ _ _ (sym e) refl ∙ one_more
