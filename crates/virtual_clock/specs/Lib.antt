pub mod Once
pub mod Order
pub mod Rooms
pub mod Steps
