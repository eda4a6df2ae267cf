pub mod Calls
pub mod Finding
pub mod Compiled
pub mod Laws
pub mod Found
