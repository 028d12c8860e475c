pub mod QuickLaws
pub mod StepLaws
pub mod RunLaws
