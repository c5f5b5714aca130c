pub mod Rising
pub mod Grouped
pub mod Searched
pub mod Put
pub mod InBlocks
pub mod Indexed
pub mod Merged
pub mod Tables
pub mod Bounds
pub mod Small
mod Tallied
