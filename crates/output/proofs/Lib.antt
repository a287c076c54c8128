pub mod LinesLaws
pub mod LinesCases
pub mod ReportsCases
pub mod ListingsLaws
pub mod PrintingLaws
