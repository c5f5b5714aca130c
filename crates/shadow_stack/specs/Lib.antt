pub mod Frames
pub mod Costs
