-- Laws of the numbers of refusals. Assumes nothing.
use Rattle.std.proofs.Common.{◌≡◌, arith}
use Rattle.definition.specs.declared.refusal.Refusal.{Refusal}
use Rattle.definition.specs.declared.refusal.Refusal.TheVariants as refusal
use Rattle.definition.specs.Refusals.{number}

-- none has the number that stands for no refusal
pub numbered : (r : Refusal) → number r ≡ 0 → ⊥
numbered refusal.FileLength e = omega arith
numbered refusal.Version e = omega arith
numbered refusal.CheckNumber e = omega arith
numbered refusal.Lump e = omega arith
numbered refusal.BuiltinNumber e = omega arith
numbered refusal.Name e = omega arith
numbered refusal.Opcode e = omega arith
numbered refusal.DefinitionType e = omega arith
numbered refusal.FieldSaveFlag e = omega arith
numbered refusal.CellCount e = omega arith
numbered refusal.EntityCellCount e = omega arith
numbered refusal.LentTooShort e = omega arith
numbered refusal.State e = omega arith
numbered refusal.Position e = omega arith
numbered refusal.Address e = omega arith
numbered refusal.Type e = omega arith
numbered refusal.NegativeValue e = omega arith
numbered refusal.UnusedOperand e = omega arith
numbered refusal.NullFunction e = omega arith
numbered refusal.NoFunction e = omega arith
numbered refusal.EntersBuiltin e = omega arith
numbered refusal.CallStackOverflow e = omega arith
numbered refusal.LocalStackOverflow e = omega arith
numbered refusal.ArgumentCount e = omega arith
numbered refusal.CallStackUnderflow e = omega arith
numbered refusal.LocalStackUnderflow e = omega arith
numbered refusal.NotHandedOver e = omega arith
numbered refusal.Limit e = omega arith
numbered refusal.TargetDepth e = omega arith
numbered refusal.Entity e = omega arith
numbered refusal.Field e = omega arith
numbered refusal.Pointer e = omega arith
numbered refusal.StringNumber e = omega arith
numbered refusal.OutputTooShort e = omega arith
numbered refusal.LoadFile e = omega arith
numbered refusal.Settings e = omega arith
numbered refusal.UnpackBufferTooShort e = omega arith
