pub mod State
pub mod Profiling
pub mod Accesses
pub mod Costs
pub mod Applying
pub mod Private
