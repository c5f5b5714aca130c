-- What a reader has to believe.
pub mod Machine
pub mod Start
pub mod Step
pub mod Waking
pub mod Kept
pub mod Told
pub mod Sound
pub mod Parts
pub mod Setup
pub mod Laws
pub mod Running
pub mod Private
