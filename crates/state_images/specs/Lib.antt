pub mod StateImage
