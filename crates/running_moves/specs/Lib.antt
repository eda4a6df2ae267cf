pub mod Keys
pub mod Chosen
pub mod Ready
