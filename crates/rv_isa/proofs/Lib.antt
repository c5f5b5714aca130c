pub mod Masks
pub mod Rows
mod OneWord
