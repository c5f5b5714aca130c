pub mod Cuts
pub mod FaultKinds
pub mod Found
pub mod Numerals
pub mod Pieces
pub mod ReadyPlaces
pub mod Texts
pub mod ThreadTables
