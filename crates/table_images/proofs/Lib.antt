pub mod Cases
pub mod TableRound
pub mod Unique
pub mod Example
