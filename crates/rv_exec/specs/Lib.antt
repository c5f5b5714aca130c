pub mod Accesses
pub mod Effects
pub mod Laws
pub mod Operations
pub mod Reading
pub mod Registers
