-- What laws of lists and of copying speak of: a part of a list, and ranges that are present.
use Rattle.std.specs.Prelude.{ℕ, ◌+◌, ◌≤◌, ◌≡◌, ◌⊎◌, List, take, drop}

abbrev pub part : List ℕ → ℕ → ℕ → List ℕ
part xs a n = take n (drop a xs)

unfoldable pub Present : ℕ → ℕ → ℕ → Type 0
Present a n count = (n ≡ 0) ⊎ (a + n ≤ count)
