pub mod Written
pub mod Modes
pub mod Checking
pub mod Judgment
pub mod Earlier
