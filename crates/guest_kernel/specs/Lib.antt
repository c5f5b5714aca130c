-- What a reader has to believe.
pub mod Copies
pub mod Descriptors
pub mod Errors
pub mod Inputs
pub mod Invariant
pub mod Kernel
pub mod Laws
pub mod Parts
pub mod State
pub mod Threads
pub mod Waits
pub mod Waking
