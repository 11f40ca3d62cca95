pub mod TableImage
