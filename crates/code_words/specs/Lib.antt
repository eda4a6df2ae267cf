pub mod Wrote
pub mod Copies
