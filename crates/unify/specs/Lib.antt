pub mod Rows
pub mod Walks
pub mod Stacks
pub mod Turns
pub mod Shapes
pub mod Cycles
