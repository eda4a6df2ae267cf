-- What the proofs of this crate use.
mod Edited
mod Climbing
mod Joined
mod Refreshing
pub mod Parse
pub mod Replaced
pub mod Told
