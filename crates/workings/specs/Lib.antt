pub mod Records
pub mod Choices
pub mod Replays
pub mod Checks
