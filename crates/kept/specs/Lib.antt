pub mod Conditions
pub mod Change
pub mod Claims
pub mod Post
