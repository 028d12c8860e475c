-- Operations on vectors, on lists of their cells.
use Rattle.std.specs.Prelude.{ℕ, List, get_or}

abbrev pub on_vector : {A : Type 0} → (ℕ → ℕ → ℕ → A) → List ℕ → A
on_vector f a = f (get_or a 0 0) (get_or a 1 0) (get_or a 2 0)

abbrev pub on_vectors : {A : Type 0} → (ℕ → ℕ → ℕ → ℕ → ℕ → ℕ → A) → List ℕ → List ℕ → A
on_vectors f a b = on_vector (on_vector f a) b
