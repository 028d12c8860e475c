-- Laws of execution by shape. Assumes nothing.
use Rattle.std.specs.Prelude.{ℕ, List, length, Bool, true, Result, Ok, Err, ℤ, pos, ◌+ℤ◌}
use Rattle.std.proofs.Common.{◌≡◌, refl, ap, ◌∙◌}
use Rattle.definition.specs.declared.refusal.Refusal.{Refusal}
use Rattle.definition.specs.declared.FileRecord.{FileRecord}
use Rattle.definition.specs.declared.Statement.{Statement}
use Rattle.definition.specs.declared.Handover.TheVariants.{Opcode}
use Rattle.definition.specs.File.{Contents, contents_at}
use Rattle.definition.specs.Refusals.{number}
use Rattle.definition.specs.Cells.{cell_of, signed, typing_of, fields_of}
use Rattle.definition.specs.Statements.{Entities, Does, refuses, Effect, effect_does, Shape, shape_of, tables_of, execute_as, execute, branches_do, call_does, floats_effect}
use Rattle.floats.specs.Opcodes.{float_op}
use Rattle.functions.specs.Laws.{AllFit}
use Rattle.functions.specs.Parts.{part_of, functions_in}
use Rattle.functions.specs.PartLaws.{part_functions, part_strings}
use Rattle.typed.specs.declared.Operands.{Operands}
use Rattle.typed.specs.Typing.{typing}
use Rattle.entities.specs.Lent.{entities_at}
use Rattle.globals.specs.Effects.{after, effect_on}
use Rattle.execution.specs.declared.Callee.{Callee}
use Rattle.execution.specs.declared.Executed.{Executed}
use Rattle.execution.specs.declared.Executed.TheVariants.{Next, Returns, HandedOver}
use Rattle.execution.specs.declared.shapes.CellOp.{CellOp}
use Rattle.execution.specs.declared.shapes.CellOp.TheVariants.{Values, Vectors, VectorsToFloat, Nots, NotV, Stores, StoreV}
use Rattle.execution.specs.declared.shapes.StringOp.{StringOp}
use Rattle.execution.specs.declared.shapes.StringOp.TheVariants.{Compare, Not}
use Rattle.execution.specs.declared.shapes.FieldOp.{FieldOp}
use Rattle.execution.specs.declared.shapes.FieldOp.TheVariants.{Loads, Address, StoresP}
use Rattle.execution.specs.declared.shapes.Shape as code
use Rattle.execution.specs.declared.shapes.Shape.TheVariants.{Cells, Strings, Fields, Branch, Goto, Call, Return, Host}
use Rattle.execution.specs.Shapes.{is_floats, cell_shape, string_shape, field_shape, shape_as, effect_as, string_effect, field_does}
use Rattle.execution.specs.Execution.{operands_of, typing_here, fields_here, completed_as, does_of, called_does, executed, execution}
use Rattle.execution.proofs.Opcodes.{floats_are}
use Rattle.execution.proofs.Transfers.{completed_is, kept}

module _ (r : FileRecord) (file : List ℕ) (p : ℤ) (s : Statement) (entity_count : ℕ) (entities cells : List ℕ) where
  abbrev k : Contents
  k = contents_at r file

  abbrev e : Entities
  e = entities_at entity_count entities

  abbrev Executes : Result Executed Refusal → List ℕ → List ℕ → Type 0
  Executes x cells' entities' = executed x cells' entities' ≡ execution (execute k p s e cells) cells entities

  -- what the opcode's statement does, were it of that shape
  abbrev does : Shape → Does
  does shape = execute_as shape (tables_of k) p s (cell_of s.arg1) (cell_of s.arg2) (cell_of s.arg3) e cells

  -- what is done by a statement of that shape is what was executed
  done_so : (shape : Shape) → shape ≡ shape_of s.opcode → (d : Does) → d ≡ does shape
      → (x : Result Executed Refusal) (cells' entities' : List ℕ) → executed x cells' entities' ≡ execution d cells entities → Executes x cells' entities'
  unfolding execute
  done_so shape is d q x cells' entities' h = h ∙ ap (λ (y : Does). execution y cells entities) (q ∙ ap does is)

  -- and of one that writes cells
  wrote_so : (shape : Shape) → shape ≡ shape_of s.opcode → (effect : Effect) → effect_does p effect ≡ does shape
      → (a : Result Unit Refusal) (cells' : List ℕ) → after a cells' ≡ effect_on effect cells → Executes (completed_as p a) cells' entities
  wrote_so shape is effect q a cells' h = done_so shape is _ q _ _ _ (completed_is p effect a cells entities cells' h)

  module _ (shape : code.Shape) (is : shape_as shape s.opcode ≡ shape_of s.opcode) where
    as_told : (known : code.Shape) → shape ≡ known → shape_as known s.opcode ≡ shape_of s.opcode
    as_told known told = rw (← told) is

    pub jumped : shape ≡ Goto → (q : ℤ) → q ≡ p +ℤ signed s.arg1 → Executes (Ok (Next q)) cells entities
    jumped told q h = done_so _ (as_told Goto told) _ (rw h) _ _ _ (kept (Ok (Next q)) cells entities)

    pub returned : shape ≡ Return → (a : ℕ) → a ≡ cell_of s.arg1 → Executes (Ok (Returns a)) cells entities
    returned told a h = done_so _ (as_told Return told) _ (rw h) _ _ _ (kept (Ok (Returns a)) cells entities)

    pub handed : shape ≡ Host → Executes (Ok (HandedOver (Opcode s.opcode))) cells entities
    handed told = done_so _ (as_told Host told) _ refl _ _ _ (kept (Ok (HandedOver (Opcode s.opcode))) cells entities)

  -- ---- by the parts of the file that it looks something up in

  module _ (fit : AllFit (length file) r) (defs : List ℕ) (d : defs ≡ part_of 8 r.globaldefs file) where
    globals_here : typing defs r.globals.count ≡ typing_of k
    globals_here = rw d (typing_here r file fit)

    -- two floats to a float
    module _ (is : is_floats (shape_of s.opcode) ≡ true) where
      abbrev floats : Effect
      floats = floats_effect (float_op s.opcode) (typing defs r.globals.count) (cell_of s.arg1) (cell_of s.arg2) (cell_of s.arg3) cells

      floats_written : (a : Result Unit Refusal) (cells' : List ℕ) → after a cells' ≡ effect_on floats cells → Executes (completed_as p a) cells' entities
      floats_written a cells' h = wrote_so _ (floats_are s.opcode is) floats (rw globals_here) a cells' h

      pub floats_stopped : (x : Result Executed Refusal) (er : Refusal) (cells' : List ℕ) → x ≡ Err er → after (Err er) cells' ≡ effect_on floats cells → Executes x cells' entities
      floats_stopped x er cells' q h = rw q (floats_written (Err er) cells' h)

      pub floats_next : (d : Executed) (cells' : List ℕ) → d ≡ Next (p +ℤ pos 1) → after (Ok tt) cells' ≡ effect_on floats cells → Executes (Ok d) cells' entities
      floats_next d cells' q h = rw q (floats_written (Ok tt) cells' h)

    module _ (shape : code.Shape) (is : shape_as shape s.opcode ≡ shape_of s.opcode) where
      pub branched_so : (when : Bool) → shape ≡ Branch when → (a : ℕ) → a ≡ cell_of s.arg1
          → (x : Result Executed Refusal) → does_of x cells ≡ branches_do when (typing defs r.globals.count) p a (signed s.arg2) cells → Executes x cells entities
      branched_so when told a h x q = done_so _ (as_told shape is (Branch when) told) _ (rw (globals_here, h) at q) _ _ _ (kept x cells entities)

      -- a Call, by what it calls
      module _ (told : shape ≡ Call) (functions : List ℕ) (f : functions ≡ part_of 36 r.functions file) (a : ℕ) (here : a ≡ cell_of s.arg1) where
        calls_so : (d : Does) → d ≡ call_does (functions_in functions) (typing defs r.globals.count) p a cells
            → (x : Result Executed Refusal) (cells' : List ℕ) → executed x cells' entities ≡ execution d cells entities → Executes x cells' entities
        calls_so d q x cells' h = done_so _ (as_told shape is Call told) d (rw (f, here, part_functions r file fit, globals_here) at q) x cells' entities h

        pub call_stopped : (x : Result Executed Refusal) (er : Refusal) → x ≡ Err er → refuses (number er) ≡ call_does (functions_in functions) (typing defs r.globals.count) p a cells → Executes x cells entities
        call_stopped x er h q = rw h (calls_so _ q _ cells (kept (Err er) cells entities))

        pub called_so : (c : Callee) → called_does c (typing defs r.globals.count) p cells ≡ call_does (functions_in functions) (typing defs r.globals.count) p a cells
            → (x : Result Executed Refusal) (cells' : List ℕ) → executed x cells' entities ≡ execution (called_does c (typing defs r.globals.count) p cells) cells entities → Executes x cells' entities
        called_so c q x cells' h = calls_so _ q x cells' h

      module _ (at : Operands) (named : at ≡ operands_of s) where
        -- the statements that write cells
        module _ (what : CellOp) (told : shape ≡ Cells what) where
          abbrev effect : Effect
          effect = effect_as what s.opcode (typing defs r.globals.count) at.a at.b at.c cells

          effect_is : effect_does p effect ≡ does (cell_shape what s.opcode)
          unfolding effect_as
          effect_is = rw (globals_here, named) (by what)
            where
              by : (w : CellOp) → effect_does p (effect_as w s.opcode (typing_of k) (cell_of s.arg1) (cell_of s.arg2) (cell_of s.arg3) cells) ≡ does (cell_shape w s.opcode)
              by (Values t) = refl
              by (Vectors ta tb) = refl
              by VectorsToFloat = refl
              by (Nots t) = refl
              by NotV = refl
              by (Stores t) = refl
              by StoreV = refl

          pub wrote_stopped : (x : Result Executed Refusal) (er : Refusal) (cells' : List ℕ) → x ≡ Err er → after (Err er) cells' ≡ effect_on effect cells → Executes x cells' entities
          wrote_stopped x er cells' q h = rw q (wrote_so _ (as_told shape is (Cells what) told) effect effect_is (Err er) cells' h)

          pub wrote_next : (d : Executed) (cells' : List ℕ) → d ≡ Next (p +ℤ pos 1) → after (Ok tt) cells' ≡ effect_on effect cells → Executes (Ok d) cells' entities
          wrote_next d cells' q h = rw q (wrote_so _ (as_told shape is (Cells what) told) effect effect_is (Ok tt) cells' h)

        -- those that go by the texts of strings
        module _ (what : StringOp) (told : shape ≡ Strings what) (strings : List ℕ) (t : strings ≡ part_of 1 r.strings file) where
          abbrev comparing : Effect
          comparing = string_effect what (typing defs r.globals.count) strings at.a at.b at.c cells

          comparing_is : effect_does p comparing ≡ does (string_shape what)
          unfolding string_effect
          comparing_is = rw (globals_here, named, t, part_strings r file fit) (by what)
            where
              by : (w : StringOp) → effect_does p (string_effect w (typing_of k) k.strings (cell_of s.arg1) (cell_of s.arg2) (cell_of s.arg3) cells) ≡ does (string_shape w)
              by (Compare when) = refl
              by Not = refl

          pub string_stopped : (x : Result Executed Refusal) (er : Refusal) (cells' : List ℕ) → x ≡ Err er → after (Err er) cells' ≡ effect_on comparing cells → Executes x cells' entities
          string_stopped x er cells' q h = rw q (wrote_so _ (as_told shape is (Strings what) told) comparing comparing_is (Err er) cells' h)

          pub string_next : (d : Executed) (cells' : List ℕ) → d ≡ Next (p +ℤ pos 1) → after (Ok tt) cells' ≡ effect_on comparing cells → Executes (Ok d) cells' entities
          string_next d cells' q h = rw q (wrote_so _ (as_told shape is (Strings what) told) comparing comparing_is (Ok tt) cells' h)

        -- those of entity fields
        pub fielded : (what : FieldOp) → shape ≡ Fields what → (fields : List ℕ) → fields ≡ part_of 8 r.fielddefs file → (x y : Result Executed Refusal) (cells' entities' : List ℕ) → x ≡ y
            → executed y cells' entities' ≡ execution (field_does what (typing defs r.globals.count) (typing fields r.entityfields) p e at.a at.b at.c cells) cells entities → Executes x cells' entities'
        fielded what told fields t x y cells' entities' same h = rw same (done_so _ (as_told shape is (Fields what) told) _ (by what) _ _ _ (rw (globals_here, t, fields_here r file fit, named) at h))
          where
            by : (w : FieldOp) → field_does w (typing_of k) (fields_of k) p e (cell_of s.arg1) (cell_of s.arg2) (cell_of s.arg3) cells ≡ does (field_shape w)
            by (Loads t) = refl
            by Address = refl
            by (StoresP t) = refl

-- ---- what the check takes, by function

pub ruleset by_shape = (jumped, returned, handed, floats_stopped, floats_next, branched_so, called_so, wrote_stopped, wrote_next, string_stopped, string_next)
