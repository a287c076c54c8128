pub mod Signs
pub mod Tables
pub mod Items
pub mod Buffers
pub mod Feeds
