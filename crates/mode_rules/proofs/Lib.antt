pub mod Terms
pub mod Equations
pub mod Growth
pub mod Passes
pub mod CheckingCases
pub mod JudgmentCases
