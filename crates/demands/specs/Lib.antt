pub mod Patterns
pub mod Runs
pub mod Tidied
pub mod AllMatches
pub mod Seconds
pub mod Impossible
pub mod OnePattern
pub mod HostPatterns
pub mod HostCodes
pub mod HostRuns
pub mod HostWords
pub mod HostAnswers
pub mod IntakeAnswers
pub mod Lines
mod Compilations
