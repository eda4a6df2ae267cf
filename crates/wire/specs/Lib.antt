pub mod Wire
pub mod Front
pub mod Words
pub mod Fours
