-- The host's operations, by what check 13 leaves of them.
use Rattle.std.proofs.Common.{◌≡◌, ℕ, zero, suc, ◌+◌, ◌-◌, ◌≤◌, ◌<◌, List, ℤ, pos, ◌+ℤ◌, true, false, length, get_or, set, refl, ◌∙◌, arith, le-ltb, lt-ltb, Result, Ok, Err}
use Rattle.definition.specs.declared.refusal.Refusal.{Refusal}
use Rattle.definition.specs.Checks.{judge, Checked, refused, accepted, decided, guard}
use Rattle.definition.specs.Refusals.{number, refusal_in}
use Rattle.definition.specs.Statements.{place_of}
use Rattle.definition.specs.Machine.{Program, Config, entities_of, count_of, with_cells, advanced, enter}
use Rattle.definition.specs.Operations.{sound, natural, below, host_enter, carry_on_conditions, carry_on, left_times, leavings_conditions, abandon_conditions, abandon, pairs_conditions, pairs_written, write_all, raw_conditions, raw_read, raw_write}
use Rattle.definition.specs.Load.{program_of}
use Rattle.definition.proofs.CheckLaws.{accepted_all}
use Rattle.definition.proofs.PlaceLaws.{below_place, below_natural, place_natural}
use Rattle.definition.proofs.RefusalLaws.{numbered}
use Rattle.pairs.specs.Together.{unless_refused}
use Rattle.progs.specs.declared.ExecutionContext.{ExecutionContext}
use Rattle.progs.specs.Contexts.{config, outcome_of, after, bare, onward, raw_place}
use Rattle.progs.proofs.StateLaws.{passed}
use Rattle.progs.proofs.OutcomeLaws.{refused_outcome, accepted_outcome}
use Rattle.progs.proofs.FileLaws.{function_count}
use Rattle.progs.proofs.AbandonLaws.{leavings_alone}

-- a refusal leaves the cells
unwritten : (r : Refusal) (written cells : List ℕ) → unless_refused (number r) written cells ≡ cells
unwritten r written cells = by (number r) (numbered r)
  where
    by : (n : ℕ) → (n ≡ 0 → ⊥) → unless_refused n written cells ≡ cells
    by zero z = absurd (z refl)
    by (suc n) z = refl

module _ (file : List ℕ) (x : ExecutionContext) (cells saved entities : List ℕ) where
  abbrev P : Program
  P = program_of file

  abbrev here : Config
  here = config x cells saved entities

  -- ---- entry

  pub enter_13 : (f : ℤ) → sound P here ≡ false → host_enter P f here ≡ refused 13
  unfolding host_enter guard judge
  enter_13 f s = rw s

  pub enter_sound : (f : ℤ) → sound P here ≡ true → host_enter P f here ≡ enter P (place_of x.file.functions.count f) x.pc here
  unfolding host_enter guard judge
  enter_sound f s = rw (s, function_count _ _ (passed _ _ _ _ _ s).loaded)

  -- ---- carrying on

  pub carry_13 : sound P here ≡ false → carry_on P here ≡ refused 13
  unfolding carry_on carry_on_conditions guard judge
  carry_13 s = rw s

  pub carry_sound : sound P here ≡ true → carry_on P here ≡ guard (onward P x.pc (entities_of here) cells) (advanced here (x.pc +ℤ pos 1) cells entities)
  unfolding carry_on carry_on_conditions guard judge
  carry_sound s = rw s

  -- ---- pairs written together

  module _ (numbers : List ℤ) where
    pub write_all_13 : sound P here ≡ false → write_all P numbers here ≡ refused 13
    unfolding write_all guard judge
    write_all_13 s = rw s

    write_all_sound : sound P here ≡ true → write_all P numbers here ≡ guard (pairs_conditions x.file.globals.count numbers) (with_cells here (pairs_written numbers cells))
    unfolding write_all guard judge
    write_all_sound s = rw s

    pub written_together : sound P here ≡ true → (r : Result (Unit {0}) Refusal) (cells' : List ℕ)
        → refusal_in r ≡ judge (pairs_conditions x.file.globals.count numbers)
        → cells' ≡ unless_refused (refusal_in r) (pairs_written numbers cells) cells
        → outcome_of r x cells' saved entities ≡ after here (write_all P numbers)
    written_together s (Ok done) cells' e w = rw (w, write_all_sound s) (accepted_outcome x cells saved entities _ _ e x _ saved refl)
    written_together s (Err r) cells' e w = rw (w, unwritten r (pairs_written numbers cells) cells, write_all_sound s) (refused_outcome x cells saved entities _ _ r e)

  -- ---- abandonment

  module _ (target : ℤ) where
    abbrev down : ℕ
    down = place_of (x.depth + 1) target

    pub abandon_13 : sound P here ≡ false → abandon P target here ≡ refused 13
    unfolding abandon abandon_conditions guard judge
    abandon_13 s = rw s

    out_of_reach : x.depth < down → below target (x.depth + 1) ≡ false
    out_of_reach k = below_place (x.depth + 1) target ∙ le-ltb down (x.depth + 1) (omega arith)

    in_reach : down ≤ x.depth → (below target (x.depth + 1) ≡ true) × (natural target ≡ down)
    in_reach k = let less : down < x.depth + 1 = omega arith in (below_place (x.depth + 1) target ∙ lt-ltb down (x.depth + 1) less, place_natural (x.depth + 1) target less)

    pub abandon_29 : sound P here ≡ true → x.depth < down → abandon P target here ≡ refused 29
    unfolding abandon abandon_conditions guard judge
    abandon_29 s k = rw (s, out_of_reach k)

    pub abandon_sound : sound P here ≡ true → down ≤ x.depth → abandon P target here ≡ guard (leavings_conditions P (x.depth - down) (bare x)) (left_times P (x.depth - down) here)
    unfolding abandon abandon_conditions guard judge
    abandon_sound s k = let reach = in_reach k in rw (s, reach.0, reach.1, leavings_alone P (x.depth - down) here)

-- ---- raw access

-- what is read at a place, and the configuration after a write there
abbrev read_at : Config → Checked ℕ → Checked ℕ
read_at c (refused n) = refused n
read_at c (accepted at) = accepted (get_or c.cells at 0)

abbrev written_at : ℕ → Config → Checked ℕ → Checked Config
written_at v c (refused n) = refused n
written_at v c (accepted at) = accepted (with_cells c (set c.cells at v))

module _ (P : Program) (a : ℤ) (c : Config) where
  pub place_13 : sound P c ≡ false → raw_place P a c ≡ refused 13
  unfolding raw_place guard judge
  place_13 s = rw s

  pub place_15 : sound P c ≡ true → count_of c ≤ place_of (count_of c) a → raw_place P a c ≡ refused 15
  unfolding raw_place guard judge
  place_15 s k = rw (s, below_place (count_of c) a, le-ltb _ _ k)

  pub place_found : sound P c ≡ true → place_of (count_of c) a < count_of c → raw_place P a c ≡ accepted (place_of (count_of c) a)
  unfolding raw_place guard judge
  place_found s k = rw (s, below_place (count_of c) a, lt-ltb _ _ k, place_natural (count_of c) a k)

  pub read_by : raw_read P a c ≡ read_at c (raw_place P a c)
  unfolding raw_read raw_place guard
  read_by = by (judge (raw_conditions P a c))
    where
      by : (n : ℕ) → decided n (get_or c.cells (natural a) 0) ≡ read_at c (decided n (natural a))
      by zero = refl
      by (suc n) = refl

  pub write_by : (v : ℕ) → raw_write P a v c ≡ written_at v c (raw_place P a c)
  unfolding raw_write raw_place guard
  write_by v = by (judge (raw_conditions P a c))
    where
      by : (n : ℕ) → decided n (with_cells c (set c.cells (natural a) v)) ≡ written_at v c (decided n (natural a))
      by zero = refl
      by (suc n) = refl

-- the cell at an address is there
pub place_inside : (file : List ℕ) (a : ℤ) (x : ExecutionContext) (cells saved entities : List ℕ) (at : ℕ) → raw_place (program_of file) a (config x cells saved entities) ≡ accepted at → at < length cells
unfolding raw_place
place_inside file a x cells saved entities at e =
    let c = config x cells saved entities in
    let h = accepted_all (raw_conditions (program_of file) a c) (natural a) at e in
    let w = passed file cells saved entities x h.0.0 in
    omega (arith, h.1, below_natural x.file.globals.count a h.0.1.0, w.lent)
