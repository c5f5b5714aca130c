pub mod Recent
pub mod Rows
pub mod Stands
pub mod Touches
