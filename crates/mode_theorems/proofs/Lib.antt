pub mod Marks
pub mod Bodies
pub mod Written
pub mod Agreement
pub mod Appended
pub mod Earlier
pub mod Later
pub mod Accepting
