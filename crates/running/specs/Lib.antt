pub mod Ran
pub mod Positions
pub mod Course
