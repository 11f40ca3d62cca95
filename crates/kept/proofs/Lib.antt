pub mod Places
pub mod Meaning
pub mod Calls
pub mod Keeps
pub mod Stays
pub mod Numbers
pub mod Own
pub mod Post
