pub mod Moved
pub mod Apply
pub mod Means
pub mod Marks
pub mod Turns
pub mod Reached
pub mod Settling
