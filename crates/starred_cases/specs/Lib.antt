pub mod Programs
pub mod Cases
