pub mod Bytes
pub mod Room
pub mod Fields
