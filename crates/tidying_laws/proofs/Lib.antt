-- Theorems over the definitions of specs/, and what their proofs use.
pub mod List
pub mod Anywhere
pub mod ByNumber
pub mod Exact
pub mod Fits
pub mod Found
pub mod Holds
pub mod Lists
pub mod Quantified
pub mod Quantifiers
pub mod Runs
pub mod Shared
pub mod Steps
pub mod Tidy
pub mod Vectors
