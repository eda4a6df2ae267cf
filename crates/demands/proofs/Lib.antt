-- Theorems over the definitions of specs/, and what their proofs use.
pub mod AllMatches
pub mod Cheats
pub mod Demands
pub mod HostAnswers
pub mod HostCodes
pub mod IntakeAnswers
pub mod Patterns
pub mod Pinned
pub mod Runs
pub mod Seconds
pub mod Tidied
pub mod Tight
pub mod Untidied
