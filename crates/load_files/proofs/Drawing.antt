-- One of several things more is drawn and written, whatever they are. Assumes nothing.
use Rattle.std.proofs.Common.{◌≡◌, ℕ, zero, suc, ◌+◌, ◌-◌, ◌<◌, ◌≤◌, List, [], ◌++◌, refl, arith, add-one}
use Rattle.definition.specs.Written.{bytes_of}
use Rattle.text.specs.declared.Writer.{Writer}
use Rattle.text.specs.Writing.{Left, left_all, left_same}
use Rattle.load_files.specs.Draws.{draw, after, drawn}
use Rattle.load_files.specs.Laws.{one_drawn, none_drawn}

pub after_none : (s : ℕ) → after 0 s ≡ s
unfolding after
after_none s = refl

pub after_more : (k s : ℕ) → after (k + 1) s ≡ draw (after k s)
unfolding after
after_more zero s = refl
after_more (suc k) s = rw add-one (rw add-one at (after_more k (draw s)))

module _ {A : Type 0} (make : ℕ → A) (each : ℕ) (write : A → List ℕ) where
  -- those that are left after i of n
  abbrev pub left : ℕ → ℕ → ℕ → List ℕ
  left n i s = bytes_of write (drawn make each (n - i) s)

  pub drawn_all : (n s : ℕ) {w : Writer} → Left (bytes_of write (drawn make each n s)) (left n 0 s) w w
  drawn_all n s = let e : n - 0 ≡ n = omega arith in left_all (rw e refl)

  module _ {text : List ℕ} {from w : Writer} (n i s : ℕ) (l : Left text (left n i s) from w) where
    pub next_drawn : i < n → (x : A) → x ≡ make s → Left text (write x ++ left n (i + 1) (after each s)) from w
    next_drawn h x made = rw made (left_same l (one_drawn make each write n i s h))

    pub none_drawn_left : n ≤ i → Left text [] from w
    none_drawn_left h = let none : n - i ≡ 0 = omega arith in left_same l (rw none (none_drawn make each write s))

-- a draw is one of so many
pub one_draw : (s : ℕ) → draw s ≡ after 1 s
unfolding after
one_draw s = refl
