pub mod Entries
pub mod Kept
pub mod Replays
pub mod Private
