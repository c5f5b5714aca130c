-- What a reader has to believe.
pub mod Machine
pub mod Run
pub mod ObservedRun
pub mod Output
pub mod RunEnds
pub mod Laws
pub mod Traces
pub mod Private
