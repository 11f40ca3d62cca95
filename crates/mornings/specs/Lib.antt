pub mod Morning
pub mod Conditions
pub mod Claims
