pub mod Numbers
pub mod Over
pub mod Written
pub mod Unique
pub mod Reading
pub mod Worked
