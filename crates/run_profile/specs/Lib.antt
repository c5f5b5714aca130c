pub mod Contexts
pub mod Keeping
pub mod Points
pub mod Profile
pub mod Private
