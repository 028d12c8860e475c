-- Common statements: what they do is what the definition says, and several of them are several steps. Assumes nothing.
use Rattle.std.specs.Prelude.{ℕ, zero, suc, ◌+◌, ◌≤◌, ◌<◌, List, [], Bool, true, false, cond, get_or, set, length, ℤ, pos, ◌+ℤ◌}
use Rattle.std.specs.Bool.{beq}
use Rattle.std.proofs.Common.{◌≡◌, refl, sym, ap, ◌∙◌, arith, lt-ltb, add-one}
use Rattle.definition.specs.declared.FileRecord.{FileRecord}
use Rattle.definition.specs.declared.Statement.{Statement}
use Rattle.definition.specs.Checks.{judge}
use Rattle.definition.specs.File.{Contents, contents_at, records, u32_at, unpacked_statements}
use Rattle.definition.specs.Floats.{is_zero}
use Rattle.definition.specs.Cells.{signed, cell_of, Typing, typing_of, access, cell_access, lookup, passes}
use Rattle.definition.specs.Statements.{Entities, Does, next, Shape, branches, opcodes, shape_of, floats_effect, effect_does, branches_do, tables_of, execute_as, execute, does_at}
use Rattle.definition.specs.Statements as shapes
use Rattle.definition.proofs.RecordLaws.{length_records}
use Rattle.functions.specs.Answers.{found, fetched}
use Rattle.functions.specs.Laws.{FetchedAt, fetch_accepts, does_fetched}
use Rattle.floats.specs.Opcodes.{float_op}
use Rattle.typed.specs.Checking.{first}
use Rattle.typed.proofs.Laws.{judge_three}
use Rattle.arithmetic.proofs.Arithmetic.{own_cell}
use Rattle.execution.specs.Shapes.{is_floats}
use Rattle.execution.proofs.Opcodes.{floats_are}
use Rattle.second_engine.specs.Quickly.{AllFloats, Goes, GoesOn}

-- ---- the cells that pass as floats

pub none_pass : (g : Typing) → AllFloats g 0
none_pass g = record { pass = λ cell h. absurd (omega arith) }

untyped : (count cell : ℕ) → cell < count → judge (access (record { definitions = []; count = count }) 2 cell) ≡ 0
unfolding access cell_access judge lookup passes
untyped count cell h = rw (lt-ltb cell count h)

pub all_pass : (r : FileRecord) (file : List ℕ) → r.globaldefs.count ≡ 0 → AllFloats (typing_of (contents_at r file)) r.globals.count
unfolding contents_at records
all_pass r file none =
    let size : length (contents_at r file).globals ≡ r.globals.count = length_records (u32_at file) 4 r.globals.count r.globals.offset in
    record { pass = λ cell h. rw (none, size) (untyped r.globals.count cell h) }

-- ---- the opcodes

if_shape : (op : ℕ) → op ≡ 49 → branches false ≡ shape_of op
unfolding shape_of opcodes
if_shape op e = rw e refl

if_not_shape : (op : ℕ) → op ≡ 50 → branches true ≡ shape_of op
unfolding shape_of opcodes
if_not_shape op e = rw e refl

goto_shape : (op : ℕ) → op ≡ 61 → shapes.jumps ≡ shape_of op
unfolding shape_of opcodes
goto_shape op e = rw e refl

return_shape : (op : ℕ) → op ≡ 43 → shapes.return ≡ shape_of op
unfolding shape_of opcodes
return_shape op e = rw e refl

-- ---- one statement

module _ (k : Contents) (p : ℤ) (e : Entities) (cells : List ℕ) (i : ℕ) (st : Statement) (q : found i st ≡ fetched k.statements p) where
  at : FetchedAt k.statements p i st
  at = fetch_accepts k.statements p i st q

  abbrev by_shape : Shape → Does
  by_shape s = execute_as s (tables_of k) p st (cell_of st.arg1) (cell_of st.arg2) (cell_of st.arg3) e cells

  shaped : (s : Shape) → s ≡ shape_of st.opcode → by_shape s ≡ does_at k p e cells
  unfolding execute
  shaped s is = ap by_shape is ∙ does_fetched k p i st e cells q

  pub goto_does : st.opcode ≡ 61 → (r : ℤ) → r ≡ pos i +ℤ signed st.arg1 → next r cells ≡ does_at k p e cells
  goto_does is r there = ap (λ (z : ℤ). next z cells) (there ∙ ap (λ (z : ℤ). z +ℤ signed st.arg1) (sym at.position)) ∙ shaped shapes.jumps (goto_shape _ is)

  pub return_does : st.opcode ≡ 43 → (a : ℕ) → a ≡ cell_of st.arg1 → shapes.returns a ≡ does_at k p e cells
  return_does is a there = ap shapes.returns there ∙ shaped shapes.return (return_shape _ is)

  module _ (n : ℕ) (most : n ≤ 32768) (all : AllFloats (typing_of k) n) where
    own : (x : ℕ) → x < n → cell_of x ≡ x
    own x h = own_cell n most x h

    abbrev g : Typing
    g = typing_of k

    effect : (x y z : ℕ) → x < n → y < n → z < n → (f : ℕ → ℕ → ℕ) (v : ℕ) → v ≡ f (get_or cells x 0) (get_or cells y 0) → (r : ℤ) → r ≡ p +ℤ pos 1
        → next r (set cells z v) ≡ effect_does p (floats_effect f g (cell_of x) (cell_of y) (cell_of z) cells)
    unfolding floats_effect first
    effect x y z a b c f v value r after =
        rw (own x a, own y b, own z c, judge_three (access g 2 x) (access g 2 y) (access g 2 z), all.pass x a, all.pass y b, all.pass z c, value, after)

    floats_do : is_floats (shape_of st.opcode) ≡ true → st.arg1 < n → st.arg2 < n → st.arg3 < n
        → (v : ℕ) → v ≡ float_op st.opcode (get_or cells st.arg1 0) (get_or cells st.arg2 0)
        → (r : ℤ) → r ≡ pos i +ℤ pos 1 → next r (set cells st.arg3 v) ≡ does_at k p e cells
    floats_do is a b c v value r after =
        effect st.arg1 st.arg2 st.arg3 a b c (float_op st.opcode) v value r (after ∙ ap (λ (z : ℤ). z +ℤ pos 1) (sym at.position))
        ∙ shaped _ (floats_are st.opcode is)

    branched : (when : Bool) (x : ℕ) → x < n → (by r : ℤ) → r ≡ p +ℤ cond (beq (is_zero (get_or cells x 0)) when) by (pos 1) → next r cells ≡ branches_do when g p (cell_of x) by cells
    unfolding branches_do
    branched when x a by r there = rw (own x a, all.pass x a, there)

    branch_does : (when : Bool) → branches when ≡ shape_of st.opcode → st.arg1 < n
        → (r : ℤ) → r ≡ pos i +ℤ cond (beq (is_zero (get_or cells st.arg1 0)) when) (signed st.arg2) (pos 1) → next r cells ≡ does_at k p e cells
    branch_does when is a r there =
        branched when st.arg1 a (signed st.arg2) r (there ∙ ap (λ (z : ℤ). z +ℤ cond (beq (is_zero (get_or cells st.arg1 0)) when) (signed st.arg2) (pos 1)) (sym at.position))
        ∙ shaped (branches when) is

-- ---- a common one, that was fetched from a buffer

module _ (buffer : List ℕ) (count : ℕ) (p q : ℤ) (as_passed : q ≡ p) (i : ℕ) (st : Statement) (by_fetch : found i st ≡ fetched (unpacked_statements buffer count) q) where
  pub index_below : count < 2147483648 → i < 2147483648
  index_below few =
      let size : length (unpacked_statements buffer count) ≡ count = length_records _ _ _ _ in
      omega (arith, (fetch_accepts _ _ _ _ by_fetch).there, size, few)

  module _ (k : Contents) (from : k.statements ≡ unpacked_statements buffer count) (n : ℕ) (most : n ≤ 32768) (all : AllFloats (typing_of k) n) (e : Entities) (old : List ℕ) where
    here : found i st ≡ fetched k.statements p
    here = rw (from, ← as_passed) by_fetch

    quick_branch : (when : Bool) → branches when ≡ shape_of st.opcode → (x : ℕ) → x ≡ st.arg1 → x < n → (r : ℤ) → r ≡ pos i +ℤ cond (beq (is_zero (get_or old x 0)) when) (signed st.arg2) (pos 1) → next r old ≡ does_at k p e old
    quick_branch when is x is_x a r there = branch_does k p e old i st here n most all when is (rw is_x at a) r (rw is_x at there)

    pub quick_if : st.opcode ≡ 49 → (x : ℕ) → x ≡ st.arg1 → x < n → (r : ℤ) → r ≡ pos i +ℤ cond (beq (is_zero (get_or old x 0)) false) (signed st.arg2) (pos 1) → next r old ≡ does_at k p e old
    quick_if is = quick_branch false (if_shape _ is)

    pub quick_if_not : st.opcode ≡ 50 → (x : ℕ) → x ≡ st.arg1 → x < n → (r : ℤ) → r ≡ pos i +ℤ cond (beq (is_zero (get_or old x 0)) true) (signed st.arg2) (pos 1) → next r old ≡ does_at k p e old
    quick_if_not is = quick_branch true (if_not_shape _ is)

    pub quick_floats : (x y z : ℕ) → x ≡ st.arg1 → y ≡ st.arg2 → z ≡ st.arg3 → x < n → y < n → z < n
        → (v : ℕ) → is_floats (shape_of st.opcode) ≡ true → v ≡ float_op st.opcode (get_or old x 0) (get_or old y 0)
        → (r : ℤ) → r ≡ pos i +ℤ pos 1 → next r (set old z v) ≡ does_at k p e old
    quick_floats x y z is_x is_y is_z a b c v is made r there =
        rw is_z (floats_do k p e old i st here n most all is (rw is_x at a) (rw is_y at b) (rw is_z at c) v (rw (is_x, is_y) at made) r there)

-- ---- several

pub goes_none : (does : ℤ → List ℕ → Does) (p : ℤ) (cells : List ℕ) → GoesOn does 0 p cells p cells
goes_none does p cells = record { goes = (refl, refl) }

pub goes_one : (does : ℤ → List ℕ → Does) (n : ℕ) (p : ℤ) (cells : List ℕ) (q : ℤ) (new : List ℕ) (q' : ℤ) (new' : List ℕ) → GoesOn does n p cells q new
    → next q' new' ≡ does q new → GoesOn does (n + 1) p cells q' new'
goes_one does n p cells q new q' new' g h = rw (add-one n) (record { goes = go n p cells g.goes })
  where
    go : (n : ℕ) (p : ℤ) (cells : List ℕ) → Goes does n p cells q new → Goes does (suc n) p cells q' new'
    go zero p cells (here, same) = (q', (new', (rw (here, same) (sym h), (refl, refl))))
    go (suc n) p cells (p', (cells', (d, rest))) = (p', (cells', (d, go n p' cells' rest)))

-- ---- what the check takes, by function

pub ruleset several = (goes_none, goes_one)
