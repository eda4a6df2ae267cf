pub mod Work
pub mod Fed
pub mod Pieces
pub mod Whole
pub mod Laws
