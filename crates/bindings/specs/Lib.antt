pub mod Cells
pub mod Plain
pub mod Scratch
pub mod Chains
pub mod Cuts
pub mod Memos
