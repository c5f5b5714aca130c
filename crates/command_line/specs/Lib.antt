pub mod App
pub mod Options
pub mod Plain
pub mod Private
pub mod Read
pub mod Taken
