pub mod RefusalLaws
-- Laws of the definition, and demand 3 proved. Read in this order.
pub mod CheckLaws
pub mod RecordLaws
pub mod UnpackedLaws
pub mod PlaceLaws
pub mod Parts
pub mod StatementLaws
pub mod Invariant
pub mod LoadLaws
pub mod ReturnsProof
pub mod WrittenLaws
pub mod Starred
