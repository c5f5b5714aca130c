pub mod Once
pub mod Rooms
pub mod Waiting
