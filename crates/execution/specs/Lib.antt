pub mod Shapes
pub mod Execution
pub use Rattle.entities.specs.Lent
