pub mod Tables
pub mod Sheet
