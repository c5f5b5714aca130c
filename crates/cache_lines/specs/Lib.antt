pub mod Held
pub mod Kept
pub mod Misses
pub mod Places
pub mod Sets
pub mod Shapes
pub mod Private
