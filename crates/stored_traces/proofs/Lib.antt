mod Cuts
pub mod EntrySets
pub mod Depth
