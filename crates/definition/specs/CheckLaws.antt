-- What laws of checks speak of: that all the conditions hold, that one is the first to fail, and what holds of a result, if there is one.
use Rattle.std.specs.Prelude.{ℕ, suc, ◌≡◌, ◌⊎◌, [], ◌∷◌, true, false}
use Rattle.definition.specs.Checks.{Conditions, Checked, refused, accepted}

-- all the conditions hold
abbrev pub All : Conditions → Type 0
All [] = Unit {0}
All (c ∷ cs) = (c.holds ≡ true) × All cs

-- n's condition fails, and all before it hold
abbrev pub FailsFirst : ℕ → Conditions → Type 0
FailsFirst n [] = ⊥
FailsFirst n (c ∷ cs) = ((c.holds ≡ false) × (n ≡ suc c.number_less_one)) ⊎ ((c.holds ≡ true) × FailsFirst n cs)

abbrev pub WhenAccepted : {A : Type 0} → (A → Type 0) → Checked A → Type 0
WhenAccepted Q (refused n) = Unit {0}
WhenAccepted Q (accepted a) = Q a
