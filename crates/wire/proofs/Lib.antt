-- Theorems over the definitions of specs/, and what their proofs use.
pub mod Passing
pub mod Ints
pub mod Written
