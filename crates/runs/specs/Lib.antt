pub mod Open
pub mod Search
pub mod Listing
pub mod Gathered
pub mod Run
pub mod Stepped
pub mod Chosen
pub mod Claims
