-- What the statement at a position does, by its fetch; and whether one would be handed over. Assumes nothing.
use Rattle.std.specs.Prelude.{ℕ, zero, suc, ◌<◌, List, length, Bool, true, false, not, Result, Ok, Err, ℤ, pos}
use Rattle.std.proofs.Common.{◌≡◌, refl, sym, ap, ◌∙◌, arith}
use Rattle.definition.specs.declared.refusal.Refusal.{Refusal}
use Rattle.definition.specs.declared.FileRecord.{FileRecord}
use Rattle.definition.specs.declared.Statement.{Statement}
use Rattle.definition.specs.Checks.{Conditions, judge, refused}
use Rattle.definition.specs.Refusals.{number}
use Rattle.definition.specs.File.{Contents, contents_at}
use Rattle.definition.specs.Cells.{cell_of, Typing}
use Rattle.definition.specs.Statements.{Entities, Does, or_refused, provided, execute, does_at, branches_do, builtin_does, call_does, Tables, tables_of, execute_as, execute_in}
use Rattle.definition.specs.Statements.{Shape, shape_of}
use Rattle.definition.specs.Operations.{is_handed_over}
use Rattle.functions.specs.Answers.{fetched, found}
use Rattle.functions.specs.Laws.{AllFit, lump_fitting, count_statements, FetchedAt, fetch_accepts, does_fetched, does_refused}
use Rattle.functions.specs.Parts.{part_of, functions_in, statements_in}
use Rattle.functions.specs.PartLaws.{part_functions, part_statements}
use Rattle.typed.specs.Typing.{typing}
use Rattle.definition.specs.Floats.{rounding_of}
use Rattle.floats.specs.Rounding.{is_rounding}
use Rattle.entities.specs.Lent.{entities_at}
use Rattle.execution.specs.declared.Callee.{Callee}
use Rattle.execution.specs.declared.Callee.TheVariants.{Function, Rounding, Host}
use Rattle.execution.specs.declared.Executed.{Executed}
use Rattle.execution.specs.declared.shapes.Shape.TheVariants.{Call}
use Rattle.execution.specs.Shapes.{is_call, is_host}
use Rattle.execution.specs.Execution.{statement, tables_in, on_parts, is_hosts, typing_here, callee_does, answering, executed, execution}
use Rattle.execution.proofs.Opcodes.{call_shape}
use Rattle.execution.proofs.Transfers.{does_is, builtin_rounds, builtin_hosts}

module _ (k : Contents) (p : ℤ) (e : Entities) (cells : List ℕ) where
  pub not_fetched : (n : ℕ) → refused n ≡ fetched k.statements p → answering (refused n) cells e.cells ≡ execution (does_at k p e cells) cells e.cells
  unfolding execution
  not_fetched n q = ap (λ (d : Does). execution d cells e.cells) (does_refused k p n e cells q)

  pub is_fetched : (i : ℕ) (st : Statement) (r : Result Executed Refusal) (cells' entities' : List ℕ) → found i st ≡ fetched k.statements p
      → executed r cells' entities' ≡ execution (execute k (pos i) st e cells) cells e.cells
      → executed r cells' entities' ≡ execution (does_at k p e cells) cells e.cells
  is_fetched i st r cells' entities' q h =
      let a : FetchedAt k.statements p i st = fetch_accepts k.statements p i st q in
      h ∙ ap (λ (d : Does). execution d cells e.cells) (rw (← a.position) (does_fetched k p i st e cells q))

module _ (r : FileRecord) (file : List ℕ) (fit : AllFit (length file) r) (statements : List ℕ) (part : statements ≡ part_of 8 r.statements file) (p q : ℤ) (as_passed : q ≡ p) where
  abbrev k : Contents
  k = contents_at r file

  there : fetched (statements_in statements) q ≡ fetched k.statements p
  there = rw (as_passed, part, part_statements r file fit)

  module _ (entity_count : ℕ) (entities cells : List ℕ) (x : Result Executed Refusal) where
    abbrev e : Entities
    e = entities_at entity_count entities

    abbrev DoneAt : List ℕ → List ℕ → Type 0
    DoneAt cells' entities' = executed x cells' entities' ≡ execution (does_at k p e cells) cells entities

    pub refused_so : (er : Refusal) → x ≡ Err er → refused (number er) ≡ fetched (statements_in statements) q → DoneAt cells entities
    unfolding executed
    refused_so er h f = rw h (not_fetched k p e cells _ (f ∙ there))

    pub fetched_so : (i : ℕ) (st : Statement) → found i st ≡ fetched (statements_in statements) q
        → (cells' entities' : List ℕ) → executed x cells' entities' ≡ execution (execute k (pos i) st e cells) cells entities → DoneAt cells' entities'
    fetched_so i st f cells' entities' h = is_fetched k p e cells i st x cells' entities' (f ∙ there) h

  module _ (i : ℕ) (st : Statement) (f : found i st ≡ fetched (statements_in statements) q) where
    here : FetchedAt k.statements p i st
    here = fetch_accepts _ _ _ _ (f ∙ there)

    pub place_below : i < 2147483648
    place_below = omega (arith, here.there, count_statements r file, (lump_fitting 8 _ r.statements fit.statements).count)

    pub opcode_below : st.opcode < 66
    opcode_below = here.opcode

-- ---- handed over or not

not_handed : (cs : Conditions) (d : Does) → is_handed_over d ≡ false → false ≡ is_handed_over (provided cs d)
not_handed cs d h = by (judge cs)
  where
    by : (n : ℕ) → false ≡ is_handed_over (or_refused n d)
    by zero = sym h
    by (suc n) = refl

module _ (k : Tables) (p : ℤ) (op x y z : ℕ) (e : Entities) (cells : List ℕ) where
  abbrev goal : Bool → Type 0
  goal b = b ≡ is_handed_over (execute_in k p (statement op x y z) e cells)

  -- of what is no Call, what is the host's
  pub other_handed : (b : Bool) → is_call (shape_of op) ≡ false → b ≡ is_host (shape_of op) → goal b
  unfolding branches_do
  other_handed b other q = q ∙ by (shape_of op) other
    where
      by : (s : Shape) → is_call s ≡ false → is_host s ≡ is_handed_over (execute_as s k p (statement op x y z) (cell_of x) (cell_of y) (cell_of z) e cells)
      by s q = grind (arith, not_handed)

  -- of a Call, what its callee comes to
  pub call_handed : is_call (shape_of op) ≡ true → (a : ℕ) → a ≡ cell_of x → (b : Bool) → b ≡ is_handed_over (call_does k.functions k.globals p a cells) → goal b
  call_handed t a q b h = h ∙ ap (λ (i : ℕ). is_handed_over (call_does k.functions k.globals p i cells)) q ∙ ap is_handed_over (does_is k p op x y z e cells Call Call refl (call_shape (shape_of op) t))

-- a builtin is the host's unless the machine does it
pub builtin_handed : (n : ℕ) (g : Typing) (p : ℤ) (cells : List ℕ) → not (is_rounding n) ≡ is_handed_over (builtin_does (rounding_of n) n g p cells)
builtin_handed n g p cells = go (is_rounding n) refl
  where
    go : (b : Bool) → is_rounding n ≡ b → not b ≡ is_handed_over (builtin_does (rounding_of n) n g p cells)
    go true h = not_handed _ _ refl ∙ ap is_handed_over (builtin_rounds n g p cells h)
    go false h = ap is_handed_over (builtin_hosts n g p cells h)

pub handed_here : (r : FileRecord) (file : List ℕ) → AllFit (length file) r → (functions defs fields strings : List ℕ) → functions ≡ part_of 36 r.functions file
    → defs ≡ part_of 8 r.globaldefs file → fields ≡ part_of 8 r.fielddefs file → strings ≡ part_of 1 r.strings file
    → (p : ℤ) (st : Statement) (e : Entities) (cells : List ℕ) (b : Bool)
    → b ≡ is_handed_over (execute_in (tables_in functions defs r.globals.count fields r.entityfields strings) p st e cells)
    → b ≡ is_handed_over (execute (contents_at r file) p st e cells)
handed_here r file fit functions defs fields texts f d h t p st e cells b q = q ∙ ap is_handed_over (on_parts r file fit functions defs fields texts f d h t p st e cells)

-- ---- the same of the statement of a file, for the check

hosts_handed : (c : Result Callee Refusal) (g : Typing) (p : ℤ) (cells : List ℕ) → is_hosts c ≡ is_handed_over (callee_does c g p cells)
hosts_handed (Ok (Function f)) g p cells = refl
hosts_handed (Ok (Rounding n)) g p cells = not_handed _ _ refl
hosts_handed (Ok (Host n)) g p cells = refl
hosts_handed (Err e) g p cells = refl

module _ (r : FileRecord) (file : List ℕ) (p : ℤ) (s : Statement) (e : Entities) (cells : List ℕ) where
  abbrev Handed : Bool → Type 0
  Handed b = b ≡ is_handed_over (execute (contents_at r file) p s e cells)

  pub other_told : (b c : Bool) → c ≡ is_call (shape_of s.opcode) → c ≡ false → b ≡ is_host (shape_of s.opcode) → Handed b
  unfolding execute
  other_told b c call_is other q = other_handed (tables_of (contents_at r file)) p s.opcode s.arg1 s.arg2 s.arg3 e cells b (sym call_is ∙ other) q

  module _ (fit : AllFit (length file) r) (b : Bool) (is : b ≡ is_call (shape_of s.opcode)) (calls : b ≡ true) (defs functions : List ℕ) (d : defs ≡ part_of 8 r.globaldefs file) (f : functions ≡ part_of 36 r.functions file) (a : ℕ) (here : a ≡ cell_of s.arg1) (c : Result Callee Refusal) (found : callee_does c (typing defs r.globals.count) p cells ≡ call_does (functions_in functions) (typing defs r.globals.count) p a cells) where
    pub call_told : (t : Bool) → t ≡ is_hosts c → Handed t
    unfolding execute
    call_told t h =
        h ∙ hosts_handed c (typing defs r.globals.count) p cells
        ∙ ap is_handed_over (found ∙ rw (f, here, part_functions r file fit, d, typing_here r file fit) (rw (← call_shape (shape_of s.opcode) (sym is ∙ calls))))

-- ---- what the check takes, by function

pub ruleset by_fetch = (refused_so, fetched_so, place_below, opcode_below)

pub ruleset handed_over = (other_told, call_told)
