pub mod Writing
pub mod Formatting
pub mod Plain
pub mod Renaming
pub mod Claims
