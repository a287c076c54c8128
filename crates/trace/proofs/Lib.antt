pub mod Writing
pub mod Walking
pub mod Sizes
pub mod Standing
pub mod RecordsLaws
mod ScansLaws
pub mod Refusing
