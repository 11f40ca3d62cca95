pub mod Digits
pub mod Rows
pub mod Cases
pub mod Back
pub mod Taken
