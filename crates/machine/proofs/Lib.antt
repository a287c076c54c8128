pub mod Compute
pub mod RunCases
pub mod CountCases
pub mod TraceCases
pub mod DeterminacyCases
pub mod Tests
