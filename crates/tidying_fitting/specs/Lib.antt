pub mod Fitting
pub mod Parts
pub mod Places
pub mod Words
pub mod Wants
