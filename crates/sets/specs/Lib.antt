pub mod Sets
pub mod Bits
pub mod Laws
mod Examples
