pub mod HostLaws
pub mod RunLaws
pub mod StepLaws
