pub mod Halving
pub mod Rising
pub mod Places
