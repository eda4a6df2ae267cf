pub mod Texts
pub mod Lines
pub mod Wrote
pub mod Laws
