pub mod LineAccesses
pub mod ByRoutine
pub mod Profile
pub mod ReportText
pub mod Private
