mod Entries
pub mod Sizes
mod Words
