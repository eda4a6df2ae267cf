pub mod Compiling
pub mod Programs
pub mod Charged
pub mod Given
pub mod Steps
