-- What the proofs of the functions use.
mod Opens
mod Putting
mod Joining
pub mod Singles
