pub mod Stacked
pub mod LentItem
