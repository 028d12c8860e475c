-- CONDITIONS OF A STATEMENT that held with the file's count of cells and hold with a greater one (document 02, R-7): each access, and what it shows of the
-- cells that are accessed.
use Rattle.std.specs.Prelude.{ℕ, ◌+◌, ◌≤◌, ◌<◌, ◌≡◌, refl, List, [], ◌∷◌, ◌++◌, Bool, not, ◌&&◌, ◌||◌, cond, length, get_or, ltb, eqb}
use Rattle.std.proofs.Common.{ap, arith}
use Rattle.std.proofs.Math.Bool.{true, false}
use borrow.Author.Tests.{ltb-true, lt-ltb}
use Rattle.definition.specs.Checks.{Conditions, ◌otherwise◌}
use Rattle.definition.specs.CheckLaws.{All}
use Rattle.definition.proofs.CheckLaws.{all_front, all_back, all_both}
use Rattle.definition.specs.File.{negative}
use Rattle.definition.specs.Cells.{string, vector, Typing, cell_access, vector_access, access, read_access}
use Rattle.definition.specs.Strings.{text_of, same_text, text_access}
use Rattle.definition.specs.Statements.{component, move_access}
use Rattle.definition.specs.StatementLaws.{last_of}
use Rattle.definition.proofs.StatementLaws.{access_last}
use Rattle.padding_laws.specs.Cells.{Agree, same_at}

-- where the conditions cs hold, so do cs', and F
pub record Still (cs cs' : Conditions) (F : Type 0) : Type 0 where
  pub holds : All cs → All cs'
  pub shows : All cs → F

-- one list of conditions after another, which may build on what the first shows
infixl 20 ◌then◌
pub ◌then◌ : {cs cs' ds ds' : Conditions} {F G : Type 0} → Still cs cs' F → (F → Still ds ds' G) → Still (cs ++ ds) (cs' ++ ds') (F × G)
◌then◌ {cs} {cs'} {ds} {ds'} first second =
    record {
      holds = λ h. let front = all_front cs ds h in all_both cs' ds' (first.holds front) ((second (first.shows front)).holds (all_back cs ds h));
      shows = λ h. let front = all_front cs ds h in (first.shows front, (second (first.shows front)).shows (all_back cs ds h));
    }

infixl 20 ◌and◌
pub ◌and◌ : {cs cs' ds ds' : Conditions} {F G : Type 0} → Still cs cs' F → Still ds ds' G → Still (cs ++ ds) (cs' ++ ds') (F × G)
first and second = first then λ f. second

-- conditions that look at no cell, and those that look at equal ones
pub unchanged : (cs : Conditions) → Still cs cs (Unit {0})
unchanged cs = record { holds = λ h. h; shows = λ h. tt }

pub equal : {cs cs' : Conditions} → cs' ≡ cs → Still cs cs' (Unit {0})
equal e = rw e (unchanged _)

-- ---- accesses

-- the same definitions over more cells
abbrev pub widened : Typing → ℕ → Typing
widened g more = record { definitions = g.definitions; count = more }

-- the cells of a value that ends below a count
pub first_below : {n : ℕ} (t cell : ℕ) → last_of t cell < n → cell < n
first_below {n} t cell h = go (eqb t vector) h
  where
    go : (b : Bool) → cond b (cell + 2) cell < n → cell < n
    go true h = omega arith
    go false h = h

pub component_below : {n : ℕ} (t cell i : ℕ) → i ≤ 2 → last_of t cell < n → component t cell i < n
component_below {n} t cell i two h = go (eqb t vector) h
  where
    go : (b : Bool) → cond b (cell + 2) cell < n → cond b (cell + i) cell < n
    go true h = omega arith
    go false h = h

module _ (g : Typing) (more : ℕ) (wider : g.count ≤ more) where
  address_still : (cell : ℕ) → ltb cell g.count ≡ true → ltb cell more ≡ true
  address_still cell h = lt-ltb cell more (omega (arith, ltb-true cell g.count h))

  access_still : (t cell : ℕ) → All (access g t cell) → All (access (widened g more) t cell)
  unfolding access vector_access cell_access
  access_still t cell k = go (eqb t vector) k
    where
      go : (b : Bool) → All (cond b (vector_access g cell) (cell_access g t cell))
          → All (cond b (vector_access (widened g more) cell) (cell_access (widened g more) t cell))
      go true (v, (t0, (a0, (t1, (a1, (t2, (a2, end))))))) = (
        v,
        (t0, (address_still cell a0, (t1, (address_still (cell + 1) a1, (t2, (address_still (cell + 2) a2, tt)))))),
      )
      go false (t0, (a0, end)) = (t0, (address_still cell a0, tt))

  -- a typed access
  pub typed : (t cell : ℕ) → Still (access g t cell) (access (widened g more) t cell) (last_of t cell < g.count)
  typed t cell = record { holds = access_still t cell; shows = access_last g t cell }

  -- a Store of a vector, one of its cells
  pub moves : (raw : Bool) (a b : ℕ) → Still (move_access g raw a b) (move_access (widened g more) raw a b) ((a < g.count) × (b < g.count))
  unfolding cell_access
  moves true a b =
      record {
        holds = λ h. (address_still a h.0, (address_still b h.1.0, tt));
        shows = λ h. (ltb-true _ _ h.0, ltb-true _ _ h.1.0);
      }
  moves false a b =
      record {
        holds = λ h. (h.0, (address_still a h.1.0, (h.1.1.0, (address_still b h.1.1.1.0, tt))));
        shows = λ h. (ltb-true _ _ h.1.0, ltb-true _ _ h.1.1.1.0);
      }

  module _ {before cells cells' : List ℕ} (same : Agree g.count before cells cells') where
    -- a value that is read
    pub reads : (must : Bool) (t cell : ℕ) → Still (read_access g must t cell cells) (read_access (widened g more) must t cell cells') (last_of t cell < g.count)
    unfolding read_access
    reads must t cell =
        let both = typed t cell then λ last. equal (ap (λ (v : ℕ). (not (must && negative v) otherwise 17) ∷ []) (same_at same cell (first_below t cell last))) in
        record { holds = both.holds; shows = λ h. (both.shows h).0 }

    -- a text that is read
    pub text : (bytes : List ℕ) (cell : ℕ) → Still (text_access g bytes cell cells) (text_access (widened g more) bytes cell cells') (cell < g.count)
    unfolding text_access
    text bytes cell =
        let both = typed string cell then λ last. equal (ap (λ (v : ℕ). (ltb v (length bytes) otherwise 33) ∷ []) (same_at same cell last)) in
        record { holds = both.holds; shows = λ h. (both.shows h).0 }

    -- two texts, which are read unless the operands are equal
    pub texts : (bytes : List ℕ) (a b : ℕ) (q : Bool)
        → Still
        (cond q [] (text_access g bytes a cells ++ text_access g bytes b cells))
        (cond q [] (text_access (widened g more) bytes a cells' ++ text_access (widened g more) bytes b cells'))
        ((q || same_text (text_of bytes (get_or cells' a 0)) (text_of bytes (get_or cells' b 0))) ≡ (q || same_text (text_of bytes (get_or cells a 0)) (text_of bytes (get_or cells b 0))))
    texts bytes a b true = record { holds = λ h. h; shows = λ h. refl }
    texts bytes a b false =
        let both = text bytes a then λ below. text bytes b in
        record { holds = both.holds; shows = λ h. rw (same_at same a (both.shows h).0, same_at same b (both.shows h).1) refl }
