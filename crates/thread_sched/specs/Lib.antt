pub mod ScheduleText
pub mod TurnRule
pub mod Private
