pub mod Reading
pub mod Tokens
pub mod Entering
pub mod Parts
pub mod Scans
pub mod Words
pub mod Cursors
pub mod Faults
