pub mod Gives
pub mod Atoms
pub mod Counted
pub mod Brackets
pub mod Rules
pub mod Marks
pub mod Sheets
