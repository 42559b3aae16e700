pub mod Comparing
pub mod Stacking
pub mod Pushing
pub mod Holding
pub mod Searching
pub mod Relating
pub mod Reserving
pub mod Weighing
