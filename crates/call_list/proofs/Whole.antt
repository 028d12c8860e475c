-- What is known of a list that is well formed.
use Rattle.std.proofs.Common.{ℕ, ◌≤◌, ◌/◌, ◌%◌, ◌≡◌, ◌&&◌, List, Bool, true, ℤ, length, leb, eqb}
use Rattle.std.proofs.lemmas.Bool.{leb-true}
use Rattle.definition.specs.File.{records}
use Rattle.definition.proofs.CheckLaws.{and_left, and_right}
use Rattle.call_list.specs.Encoding.{formed_at, all_true, well_formed}

module _ (list numbers : List ℤ) (room : ℕ) (h : well_formed list numbers room ≡ true) where
  abbrev each_formed : Bool
  each_formed = all_true (records (formed_at list numbers) 3 (length list / 3) 0)

  pub fits : length list ≤ room
  unfolding well_formed
  fits = leb-true (length list) room (and_right (eqb (length list % 3) 0) (leb (length list) room) (and_left (eqb (length list % 3) 0 && leb (length list) room) each_formed h))

  pub each : each_formed ≡ true
  unfolding well_formed
  each = and_right (eqb (length list % 3) 0 && leb (length list) room) each_formed h
