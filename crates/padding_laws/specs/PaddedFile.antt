-- THE PADDED FILE, document 02's R-7: what it says, how many cells it has, and that 15 refuses none of the first 64.
use Rattle.std.specs.Prelude.{ℕ, suc, ◌+◌, ◌-◌, ◌≤◌, ◌<◌, ◌≡◌, refl, List, [], ◌∷◌, Bool, length, replicate, ltb, eqb, pos}
use Rattle.std.proofs.Common.{sym, ◌∙◌, true≢false, arith, lt-ltb, length-append}
use Rattle.std.proofs.Math.Path.{ap}
use Rattle.std.proofs.Math.Bool.{true, false, cond}
use Rattle.std.proofs.lemmas.List.{length-replicate}
use Rattle.definition.specs.File.{check_number, least_cells, file_of, Contents, contents_at, contents_of}
use Rattle.definition.specs.Checks.{Conditions, judge}
use Rattle.definition.specs.CheckLaws.{All}
use Rattle.definition.proofs.RecordLaws.{length_globals}
use Rattle.definition.specs.Cells.{vector, Typing, typing_of, addressed, cell_access, vector_access, access}
use Rattle.definition.specs.StatementLaws.{last_of}
use Rattle.definition.specs.Machine.{present, Copy, copies_present}
use Rattle.definition.specs.Operations.{below}
use Rattle.definition.specs.Written.{padded, padded_file}
use Rattle.writing_laws.specs.Written.{AllEight, contents_written}
use Rattle.writing_laws.specs.Loads.{eight_at, counts_strings}
use Rattle.padding_laws.specs.Transfers.{present_still, copies_still}

-- "zero cells added up to 64": so many
abbrev pub added_cells : List ℕ → ℕ
added_cells file = least_cells - length (contents_of file).globals

-- what the padding program writes of a file
abbrev pub padded_contents : List ℕ → Contents
padded_contents file = padded (added_cells file) (contents_of file)

-- each condition whose number is 15 holds
abbrev Unless15 : Conditions → Type 0
Unless15 [] = Unit {0}
Unless15 (c ∷ cs) = (c.number_less_one ≡ 14 → c.holds ≡ true) × Unless15 cs

never_15 : (cs : Conditions) → Unless15 cs → judge cs ≡ 15 → ⊥
unfolding judge
never_15 [] h e = omega arith
never_15 (c ∷ cs) (own, rest) e = go c.holds refl e (never_15 cs rest)
  where
    go : (b : Bool) → c.holds ≡ b → cond b (judge cs) (suc c.number_less_one) ≡ 15 → (judge cs ≡ 15 → ⊥) → ⊥
    go true k e none = none e
    go false k e none = true≢false (sym (own (omega arith)) ∙ k)

module _ (file : List ℕ) where
  pub padded_eight : AllEight (padded_contents file)
  padded_eight = eight_at (file_of file) file

  -- "with zero cells added up to 64 and everything else equal"
  pub padded_says : contents_of (padded_file file) ≡ padded_contents file
  padded_says = contents_written check_number (padded_contents file) padded_eight

  length_padded : length (padded_contents file).globals ≡ length (contents_of file).globals + added_cells file
  length_padded =
      length-append (contents_of file).globals (replicate (added_cells file) 0)
      ∙ ap (λ (n : ℕ). length (contents_of file).globals + n) (length-replicate {A = ℕ} (added_cells file) 0)

  -- its counts, as its header has them
  pub padded_count : (file_of (padded_file file)).globals.count ≡ (file_of file).globals.count + added_cells file
  padded_count =
      sym (length_globals (padded_file file))
      ∙ ap (λ (k : Contents). length k.globals) padded_says
      ∙ length_padded
      ∙ ap (λ (n : ℕ). n + added_cells file) (length_globals file)

  pub padded_strings : (file_of (padded_file file)).strings.count ≡ (file_of file).strings.count
  padded_strings = sym (counts_strings (padded_file file)) ∙ ap (λ (k : Contents). length k.strings) padded_says ∙ counts_strings file

  pub padded_entities : (file_of (padded_file file)).entityfields ≡ (file_of file).entityfields
  unfolding contents_at
  padded_entities = ap (λ (k : Contents). k.entityfields) padded_says

  -- "up to 64"
  pub padded_least : least_cells ≤ (file_of (padded_file file)).globals.count
  padded_least = omega (arith, padded_count, length_globals file)

  pub padded_exactly : (file_of file).globals.count ≤ least_cells → (file_of (padded_file file)).globals.count ≡ least_cells
  padded_exactly h = omega (arith, padded_count, length_globals file)

  -- ---- "In a padded file 15 no longer refuses an access to an added cell"

  abbrev cells_of : Typing
  cells_of = typing_of (contents_of (padded_file file))

  inside : (a : ℕ) → a < least_cells → ltb a cells_of.count ≡ true
  inside a h = lt-ltb a cells_of.count (omega (arith, padded_least, length_globals (padded_file file)))

  -- no typed access to a value of a type whose last cell is below 64: what may refuse it is 16
  pub typed_reached : (t a : ℕ) → last_of t a < least_cells → judge (access (typing_of (contents_of (padded_file file))) t a) ≡ 15 → ⊥
  unfolding access vector_access cell_access
  typed_reached t a h = go (eqb t vector) h
    where
      go : (b : Bool) → cond b (a + 2) a < least_cells → judge (cond b (vector_access cells_of a) (cell_access cells_of t a)) ≡ 15 → ⊥
      go true h = never_15 (vector_access cells_of a) (
        λ n. absurd (omega arith),
        (
          λ n. absurd (omega arith),
          (
            λ n. inside a (omega arith),
            (λ n. absurd (omega arith), (λ n. inside (a + 1) (omega arith), (λ n. absurd (omega arith), (λ n. inside (a + 2) h, tt)))),
          ),
        ),
      )
      go false h = never_15 (cell_access cells_of t a) (λ n. absurd (omega arith), (λ n. inside a h, tt))

  -- none by address alone, a Store's of a vector to the cells of the arguments
  pub address_reached : (a : ℕ) → a < least_cells → All (addressed (typing_of (contents_of (padded_file file))) a)
  address_reached a h = (inside a h, tt)

  -- none of the host's: raw access
  pub raw_reached : (a : ℕ) → a < least_cells → below (pos a) (file_of (padded_file file)).globals.count ≡ true
  raw_reached a h = lt-ltb a (file_of (padded_file file)).globals.count (omega (arith, padded_least))

  -- no local cells and no operand cells of a Return, where 64 cells have them, and no argument cells
  pub range_reached : (a k : ℕ) → present a k least_cells ≡ true → present a k (file_of (padded_file file)).globals.count ≡ true
  range_reached a k h = present_still a k least_cells (file_of (padded_file file)).globals.count padded_least h

  pub copies_reached : (ms : List Copy) → copies_present least_cells ms ≡ true → copies_present (file_of (padded_file file)).globals.count ms ≡ true
  copies_reached ms h = copies_still ms least_cells (file_of (padded_file file)).globals.count padded_least h
