-- THE NUMBERS OF REFUSALS. Document 01: "When an answer is an enum, a definition gives this paper's number and values for each of its cases. The promises
-- use that definition."
use Rattle.std.specs.Prelude.{ℕ, Result, Ok, Err}
use Rattle.definition.specs.declared.refusal.Refusal.{Refusal}
use Rattle.definition.specs.declared.refusal.Refusal.TheVariants as refusal
use Rattle.definition.specs.Checks.{Checked, refused, accepted}

abbrev pub number : Refusal → ℕ
number refusal.FileLength = 1
number refusal.Version = 2
number refusal.CheckNumber = 3
number refusal.Lump = 4
number refusal.BuiltinNumber = 5
number refusal.Name = 6
number refusal.Opcode = 7
number refusal.DefinitionType = 8
number refusal.FieldSaveFlag = 9
number refusal.CellCount = 10
number refusal.EntityCellCount = 11
number refusal.LentTooShort = 12
number refusal.State = 13
number refusal.Position = 14
number refusal.Address = 15
number refusal.Type = 16
number refusal.NegativeValue = 17
number refusal.UnusedOperand = 18
number refusal.NullFunction = 19
number refusal.NoFunction = 20
number refusal.EntersBuiltin = 21
number refusal.CallStackOverflow = 22
number refusal.LocalStackOverflow = 23
number refusal.ArgumentCount = 24
number refusal.CallStackUnderflow = 25
number refusal.LocalStackUnderflow = 26
number refusal.NotHandedOver = 27
number refusal.Limit = 28
number refusal.TargetDepth = 29
number refusal.Entity = 30
number refusal.Field = 31
number refusal.Pointer = 32
number refusal.StringNumber = 33
number refusal.OutputTooShort = 34
number refusal.LoadFile = 35
number refusal.Settings = 36
number refusal.UnpackBufferTooShort = 37

-- the number of the refusal that a result holds, 0 where it holds none
abbrev pub refusal_in : {A : Type 0} → Result A Refusal → ℕ
refusal_in (Ok a) = 0
refusal_in (Err r) = number r

-- a result as what the definition's operations give
abbrev pub checked : {A : Type 0} → Result A Refusal → Checked A
checked (Ok a) = accepted a
checked (Err r) = refused (number r)
