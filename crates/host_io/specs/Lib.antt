pub mod After
pub mod Faults
pub mod Files
pub mod Memory
pub mod Real
pub mod Refused
pub mod Sink
