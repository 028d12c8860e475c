-- THE SHAPES OF OPCODES: what the code's shape of an opcode is in the definition.
use Rattle.std.specs.Prelude.{ℕ, List, ℤ, Bool, true, false}
use Rattle.definition.specs.Cells.{Typing}
use Rattle.definition.specs.Statements.{Shape, floats, values, vectors, vectors_to_float, strings, negates, negates_v, negates_s, stores, stores_v, loads, addresses, stores_p, branches, jumps, call, return, host}
use Rattle.definition.specs.Statements.{Entities, Does, effect_does, loads_effect, addresses_effect, stores_p_effect, put_does}
use Rattle.definition.specs.Statements.{Effect, values_effect, vectors_effect, vectors_to_float_effect, strings_effect, negates_effect, negates_v_effect, negates_s_effect, stores_effect, stores_v_effect}
use Rattle.floats.specs.Opcodes.{by_shape, value_op, component_op, vectors_to_float_op, not_op}
use Rattle.execution.specs.declared.shapes.CellOp.{CellOp}
use Rattle.execution.specs.declared.shapes.CellOp.TheVariants.{Values, Vectors, VectorsToFloat, Nots, NotV, Stores, StoreV}
use Rattle.execution.specs.declared.shapes.StringOp.{StringOp}
use Rattle.execution.specs.declared.shapes.StringOp.TheVariants.{Compare, Not}
use Rattle.execution.specs.declared.shapes.FieldOp.{FieldOp}
use Rattle.execution.specs.declared.shapes.FieldOp.TheVariants.{Loads, Address, StoresP}
use Rattle.execution.specs.declared.shapes.Shape as code
use Rattle.execution.specs.declared.shapes.Shape.TheVariants.{Cells, Strings, Fields, Branch, Goto, Call, Return, Host}

abbrev pub is_floats : Shape → Bool
is_floats = by_shape (λ g. true) (λ g. false) (λ g. false) (λ g. false) (λ g. false) false

-- one choice for a Call, one for what goes to the host, and one for the rest
abbrev transfer : Bool → Bool → Bool → Shape → Bool
transfer c h z (floats f) = z
transfer c h z (values t f) = z
transfer c h z (vectors ta tb f) = z
transfer c h z (vectors_to_float f) = z
transfer c h z (strings when) = z
transfer c h z (negates t f) = z
transfer c h z negates_v = z
transfer c h z negates_s = z
transfer c h z (stores t) = z
transfer c h z stores_v = z
transfer c h z (loads t) = z
transfer c h z addresses = z
transfer c h z (stores_p t) = z
transfer c h z (branches when) = z
transfer c h z jumps = z
transfer c h z call = c
transfer c h z return = z
transfer c h z host = h

-- Call0 to Call8
abbrev pub is_call : Shape → Bool
is_call = transfer true false false

-- "go to the host"
abbrev pub is_host : Shape → Bool
is_host = transfer false true false

abbrev pub cell_shape : CellOp → ℕ → Shape
cell_shape (Values t) op = values t (value_op op)
cell_shape (Vectors ta tb) op = vectors ta tb (component_op op)
cell_shape VectorsToFloat op = vectors_to_float (vectors_to_float_op op)
cell_shape (Nots t) op = negates t (not_op op)
cell_shape NotV op = negates_v
cell_shape (Stores t) op = stores t
cell_shape StoreV op = stores_v

abbrev pub string_shape : StringOp → Shape
string_shape (Compare when) = strings when
string_shape Not = negates_s

abbrev pub field_shape : FieldOp → Shape
field_shape (Loads t) = loads t
field_shape Address = addresses
field_shape (StoresP t) = stores_p t

abbrev pub shape_as : code.Shape → ℕ → Shape
shape_as (Cells what) op = cell_shape what op
shape_as (Strings what) op = string_shape what
shape_as (Fields what) op = field_shape what
shape_as (Branch when) op = branches when
shape_as Goto op = jumps
shape_as Call op = call
shape_as Return op = return
shape_as Host op = host

-- the effect of a statement that writes cells
unfoldable pub effect_as : CellOp → ℕ → Typing → ℕ → ℕ → ℕ → List ℕ → Effect
effect_as (Values t) op = values_effect t (value_op op)
effect_as (Vectors ta tb) op = vectors_effect ta tb (component_op op)
effect_as VectorsToFloat op = vectors_to_float_effect (vectors_to_float_op op)
effect_as (Nots t) op = negates_effect t (not_op op)
effect_as NotV op = negates_v_effect
effect_as (Stores t) op = stores_effect t
effect_as StoreV op = stores_v_effect

-- the effect of one that goes by the texts of strings
unfoldable pub string_effect : StringOp → Typing → List ℕ → ℕ → ℕ → ℕ → List ℕ → Effect
string_effect (Compare when) = strings_effect when
string_effect Not = negates_s_effect

-- what a statement of entity fields does at the position p, whose operands name the cells a, b and c
abbrev pub field_does : FieldOp → Typing → Typing → ℤ → Entities → ℕ → ℕ → ℕ → List ℕ → Does
field_does (Loads t) g h p e a b c cells = effect_does p (loads_effect t g h e a b c cells)
field_does Address g h p e a b c cells = effect_does p (addresses_effect g h e a b c cells)
field_does (StoresP t) g h p e a b c cells = put_does p (stores_p_effect t g h e a b c cells)
