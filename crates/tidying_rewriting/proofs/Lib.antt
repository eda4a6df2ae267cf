-- Theorems over the definitions of specs/, and what their proofs use.
pub mod Carried
pub mod Dropped
pub mod Dropping
pub mod Filling
pub mod Own
pub mod Quantifiers
pub mod Walks
