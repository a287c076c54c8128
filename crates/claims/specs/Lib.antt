pub mod Names
pub mod Piles
pub mod Examples
