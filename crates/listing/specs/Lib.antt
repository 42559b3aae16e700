-- What the contracts of the crate cite.
pub mod Ends
pub mod Lines
pub mod Skips
pub mod Kinds
