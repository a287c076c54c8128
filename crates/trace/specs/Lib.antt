pub mod Facts
pub mod Records
pub mod Scans
