pub mod Tables
pub mod Goals
pub mod Playing
