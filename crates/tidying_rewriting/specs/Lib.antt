pub mod Rewriting
pub mod Quantifiers
pub mod Frames
pub mod Series
pub mod Dropping
pub mod Carried
