pub mod Names
pub mod Rooms
pub mod Piles
pub mod Printing
