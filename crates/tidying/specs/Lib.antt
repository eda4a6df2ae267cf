pub mod Standing
pub mod Search
pub mod Held
pub mod Steps
pub mod Tidies
