pub mod Workings
pub mod Derivations
pub mod Resolvents
pub mod Outcomes
