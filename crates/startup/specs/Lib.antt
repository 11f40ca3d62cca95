pub mod World
pub mod Demand
pub mod Answered
