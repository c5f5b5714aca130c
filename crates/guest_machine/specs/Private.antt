-- What private functions promise one another. No public clause rests on it.
pub mod Carrying
pub mod Rows
pub mod Making
pub mod Setup
pub mod Telling
