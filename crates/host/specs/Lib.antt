pub mod Surface
pub mod Readings
pub mod Laws
