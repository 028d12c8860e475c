-- "all or none": the cells that a refusal leaves, by its number.
use Rattle.std.specs.Prelude.{ℕ, zero, suc, List}

abbrev pub unless_refused : ℕ → List ℕ → List ℕ → List ℕ
unless_refused zero written cells = written
unless_refused (suc n) written cells = cells
