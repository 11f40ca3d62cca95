pub mod Cases
pub mod StateRound
pub mod Unique
