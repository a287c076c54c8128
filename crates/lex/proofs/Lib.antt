mod Table
pub mod ScanningLaws
pub mod TokensLaws
pub mod Placed
pub mod PositionsLaws
pub mod PositionsCases
