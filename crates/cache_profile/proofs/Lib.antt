pub mod Accessed
pub mod Bounds
pub mod Following
pub mod Groups
pub mod InRow
