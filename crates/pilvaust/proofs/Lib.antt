pub mod NothingOpen
pub mod RunLaws
pub mod Listings
pub mod DeterminateLaws
pub mod ReadingLaws
pub mod ReadingEntries
pub mod Checking
pub mod GoalLaws
pub mod SheetLaws
pub mod PlaybackLaws
pub mod Ready
pub mod Tracing
pub mod Sheets
mod FormatLaws
pub mod WorkingsLaws
