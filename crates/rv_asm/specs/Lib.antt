pub mod Assembled
pub mod Draft
pub mod Executable
pub mod Fields
pub mod Lines
pub mod Refusals
pub mod Private
