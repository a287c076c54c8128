pub mod Told
pub mod Tables
pub mod Clauses
pub mod Joins
pub mod Overlaps
