pub mod Cases
pub mod Bytes
pub mod Exactly
pub mod Found
pub mod Runs
pub mod StepLaws
pub mod Byte
pub mod Outcomes
