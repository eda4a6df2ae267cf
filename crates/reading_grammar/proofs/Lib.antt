-- Theorems over the definitions of specs/, and what their proofs use.
pub mod ClassesRefused
pub mod Complete
pub mod First
pub mod ItemsSound
pub mod Reached
pub mod AllReads
pub mod Refused
pub mod Sound
pub mod ToldExamples
