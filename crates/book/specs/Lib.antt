pub mod Limits
pub mod Rows
pub mod Book
pub mod Calls
pub mod Breaks
