pub mod Break
