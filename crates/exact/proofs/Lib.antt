pub mod Enabled
pub mod Keeps
