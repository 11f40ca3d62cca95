pub mod Decimal
pub mod Line
pub mod Room
pub mod Reading
pub mod Worked
