pub mod Rows
pub mod Rules
pub mod Known
pub mod Filing
pub mod Admits
pub mod Unique
