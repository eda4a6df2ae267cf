-- Theorems over the definitions of specs/, and what their proofs use.
pub mod Answers
pub mod Best
pub mod Bound
pub mod Checked
pub mod Coded
pub mod Compile
pub mod Counted
pub mod Once
pub mod Passed
pub mod Repeated
pub mod Straight
pub mod Tight
pub mod Width
