pub mod Runs
pub mod Nth
