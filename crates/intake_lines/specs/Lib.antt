pub mod Intake
pub mod Ended
pub mod Laws
mod Examples
