pub mod Lays
pub mod Opens
pub mod Worked
