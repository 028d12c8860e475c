-- ENTRY AND RETURN, and one step, once with the file's count of cells and once with more (document 02, R-7), of two programs with the same functions.
use Prim.Native.Nat.{ℕ, zero, suc, ◌+◌, ◌-◌, ◌≤◌}
use Rattle.std.specs.Prelude.{◌≡◌, Bool, false, ◌&&◌, ◌||◌, ltb, leb, eqb, ℤ, ◌+ℤ◌}
use Rattle.std.proofs.Math.Path.{refl, ap}
use mathlib.Core.List.{List, [], ◌∷◌}
use Rattle.std.proofs.Math.Bool.{true}
use Rattle.std.proofs.Common.{arith}
use borrow.Author.Tests.{ltb-true, lt-ltb, leb-true, le-leb}
use Rattle.std.proofs.Math.ListN.{length, drop, length-drop}
use Rattle.std.proofs.Math.Seq.{paste}
use Rattle.std.proofs.Math.IntN.{pos}
use Rattle.definition.specs.declared.FileRecord.{FileRecord}
use Rattle.definition.specs.declared.FunctionDef.{FunctionDef}
use Rattle.definition.specs.Checks.{Conditions, judge, decided, guard}
use Rattle.definition.specs.CheckLaws.{All}
use Rattle.definition.proofs.CheckLaws.{judge_passed, judge_all, and_left, and_right, and_both}
use Rattle.definition.specs.File.{saved_store}
use Rattle.definition.specs.Statements.{Does, next, puts, calls, returns, refuses, hands_over}
use Rattle.definition.specs.Machine.{Program, function_of, State, Config, count_of, present, Copy, copied, successive, arguments_of, copies_present}
use Rattle.definition.specs.Machine.{entry_conditions, entered, leave_conditions, left, return_conditions, returned, Stepped, completed, refused_step, handed_step, as_step, step_as}
use Rattle.definition.specs.Parts.{Present}
use Rattle.definition.proofs.Parts.{present_true, length_copied}
use Rattle.padding_laws.specs.Cells.{Agree, same_present, agree_copied, agree_paste}
use Rattle.padding_laws.specs.Effects.{Carries}

-- "state but for what that records of the file"
abbrev pub recorded_as : FileRecord → State → State
recorded_as r s =
    record {
      file = r;
      settings = s.settings;
      pc = s.pc;
      function = s.function;
      depth = s.depth;
      saved = s.saved;
      entity_count = s.entity_count;
      frames = s.frames;
    }

-- the same but for that and the cells
abbrev pub with_file : FileRecord → List ℕ → Config → Config
with_file r cells c = record { state = recorded_as r c.state; cells = cells; saved = c.saved; entities = c.entities }

-- ---- ranges and copies that are present

pub present_still : (a k n more : ℕ) → n ≤ more → present a k n ≡ true → present a k more ≡ true
unfolding present
present_still a k n more h e = go (eqb k 0) e
  where
    go : (b : Bool) → (b || leb (a + k) n) ≡ true → (b || leb (a + k) more) ≡ true
    go true e = refl
    go false e = le-leb (a + k) more (omega (arith, leb-true (a + k) n e))

pub copies_still : (ms : List Copy) (n more : ℕ) → n ≤ more → copies_present n ms ≡ true → copies_present more ms ≡ true
unfolding copies_present
copies_still [] n more h e = refl
copies_still (m ∷ ms) n more h e =
    let ends : (ltb m.from n && ltb m.to n) ≡ true = and_left (ltb m.from n && ltb m.to n) (copies_present n ms) e in
    let still : (i : ℕ) → ltb i n ≡ true → ltb i more ≡ true = λ i q. lt-ltb i more (omega (arith, ltb-true i n q)) in
    and_both (ltb m.from more && ltb m.to more) (copies_present more ms)
    (and_both (ltb m.from more) (ltb m.to more)
    (still m.from (and_left (ltb m.from n) (ltb m.to n) ends))
    (still m.to (and_right (ltb m.from n) (ltb m.to n) ends)))
    (copies_still ms n more h (and_right (ltb m.from n && ltb m.to n) (copies_present n ms) e))

successive_present : (k from to n : ℕ) → from + k ≤ n → to + k ≤ n → copies_present n (successive k from to) ≡ true
unfolding successive copies_present
successive_present zero from to n h q = refl
successive_present (suc k) from to n h q =
    and_both (ltb from n && ltb to n) (copies_present n (successive k (from + 1) (to + 1)))
    (and_both (ltb from n) (ltb to n) (lt-ltb from n (omega arith)) (lt-ltb to n (omega arith)))
    (successive_present k (from + 1) (to + 1) n (omega arith) (omega arith))

-- ---- what follows on a step with more cells, where x follows with the file's; `before` are the cells before it

pub record Completes (n : ℕ) (r : FileRecord) (before : List ℕ) (c : Config) (y : Stepped) : Type 0 where
  pub cells' : List ℕ
  pub completes : y ≡ completed (with_file r cells' c)
  pub agree : Agree n before c.cells cells'

abbrev pub Follows : ℕ → FileRecord → List ℕ → Stepped → Stepped → Type 0
Follows n r before (completed c) y = Completes n r before c y
Follows n r before (refused_step m) y = Unit {0}
Follows n r before (handed_step h) y = y ≡ handed_step h

guard_follows : (n : ℕ) (r : FileRecord) (before : List ℕ) (cs cs' : Conditions) (c d : Config) → (All cs → All cs')
    → (All cs → Completes n r before c (completed d)) → Follows n r before (as_step (guard cs c)) (as_step (guard cs' d))
unfolding guard
guard_follows n r before cs cs' c d still after = go (judge cs) refl
  where
    go : (m : ℕ) → judge cs ≡ m → Follows n r before (as_step (decided m c)) (as_step (decided (judge cs') d))
    go zero e = let h = judge_passed cs e in rw (judge_all cs' (still h)) (after h)
    go (suc m) e = tt

-- what a step of c builds on: its file has n cells, both have them lent, and the saved store fits
pub record Fits (n : ℕ) (c : Config) (cells' : List ℕ) : Type 0 where
  pub own : count_of c ≡ n
  pub least : 4 ≤ n
  pub lent : n ≤ length c.cells
  pub lent' : n ≤ length cells'
  pub store : saved_store ≤ length c.saved
  pub saved : c.state.saved ≤ saved_store

module _ (P Q : Program) (alike : Q.functions ≡ P.functions) (n : ℕ) (r : FileRecord) (wider : n ≤ r.globals.count)
    (c : Config) (cells' : List ℕ) (fits : Fits n c cells') (same : Agree n cells' c.cells cells') where
  there : (a k : ℕ) → present a k (count_of c) ≡ true → Present a k n
  there a k h = present_true a k n (rw fits.own at h)

  still_there : (a k : ℕ) → present a k (count_of c) ≡ true → present a k r.globals.count ≡ true
  still_there a k h = present_still a k n r.globals.count wider (rw fits.own at h)

  -- ---- entry

  entry_still : (f : ℕ) → All (entry_conditions P f c) → All (entry_conditions Q f (with_file r cells' c))
  unfolding entry_conditions
  entry_still f (twenty, (depth, (saved, (locals, (count, (arguments, (builtin, end))))))) =
      let d : FunctionDef = function_of P f in
      let copies : copies_present n (arguments_of d) ≡ true = rw fits.own at arguments in
      rw alike (
        twenty,
        (
          depth,
          (
            saved,
            (
              still_there d.start d.locals locals,
              (count, (copies_still (arguments_of d) n r.globals.count wider copies, (builtin, tt))),
            ),
          ),
        ),
      )

  entered_same : (f : ℕ) (back : ℤ) → Present (function_of P f).start (function_of P f).locals n
      → entered Q f back (with_file r cells' c) ≡ with_file r (copied (arguments_of (function_of P f)) cells') (entered P f back c)
  unfolding entered
  entered_same f back h = rw (alike, same_present same (function_of P f).start (function_of P f).locals h) refl

  entry_follows : (f : ℕ) (back : ℤ) → All (entry_conditions P f c) → Completes n r cells' (entered P f back c) (completed (entered Q f back (with_file r cells' c)))
  unfolding entry_conditions entered
  entry_follows f back (twenty, (depth, (saved, (locals, (count, (arguments, rest)))))) =
      let d : FunctionDef = function_of P f in
      record {
        cells' = copied (arguments_of d) cells';
        completes = ap completed (entered_same f back (there d.start d.locals locals));
        agree = agree_copied (arguments_of d) (rw fits.own at arguments) same;
      }

  -- ---- Return and Done

  return_still : (a : ℕ) → All (return_conditions P a c) → All (return_conditions Q a (with_file r cells' c))
  unfolding leave_conditions
  return_still a (operand, (depth, (enough, (locals, end)))) =
      let d : FunctionDef = function_of P c.state.function in
      rw alike (still_there a 3 operand, (depth, (enough, (still_there d.start d.locals locals, tt))))

  return_follows : (a : ℕ) → All (return_conditions P a c) → Completes n r cells' (returned P a c) (completed (returned Q a (with_file r cells' c)))
  unfolding leave_conditions left present
  return_follows a (operand, (depth, (enough, (locals, end)))) =
      let d : FunctionDef = function_of P c.state.function in
      let three : List Copy = successive 3 a 1 in
      let stored : List ℕ = drop (c.state.saved - d.locals) c.saved in
      let below : a + 3 ≤ n = leb-true (a + 3) n (rw fits.own at operand) in
      let copies = agree_copied three (successive_present 3 a 1 n below (omega (arith, fits.least))) same in
      let room : d.locals ≤ length stored =
      omega (arith, leb-true d.locals c.state.saved enough, length-drop (c.state.saved - d.locals) c.saved, fits.store, fits.saved) in
      record {
        cells' = paste (copied three cells') d.start stored d.locals;
        completes = rw alike refl;
        agree =
            agree_paste copies d.start stored d.locals (there d.start d.locals locals)
            (rw (length_copied three c.cells) fits.lent) (rw (length_copied three cells') fits.lent') room;
      }

  -- ---- one step

  pub step_follows : (x y : Does) → Carries n cells' x y → Follows n r cells' (step_as P x c) (step_as Q y (with_file r cells' c))
  unfolding step_as
  step_follows (next p cells) y h = rw h.does (record { cells' = h.cells'; completes = refl; agree = h.agree })
  step_follows (puts p entities) y h = rw h (record { cells' = cells'; completes = refl; agree = same })
  step_follows (calls f) y h =
      rw h
      (guard_follows n r cells' (entry_conditions P f c) (entry_conditions Q f (with_file r cells' c)) (entered P f _ c) (entered Q f _ (with_file r cells' c))
      (entry_still f) (entry_follows f (c.state.pc +ℤ pos 1)))
  step_follows (returns a) y h =
      rw h
      (guard_follows n r cells' (return_conditions P a c) (return_conditions Q a (with_file r cells' c)) (returned P a c) (returned Q a (with_file r cells' c))
      (return_still a) (return_follows a))
  step_follows (refuses m) y h = tt
  step_follows (hands_over x) y h = rw h refl
