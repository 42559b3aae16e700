pub mod Cutting
pub mod Seeking
pub mod Storing
