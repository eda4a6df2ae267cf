-- What the proofs of the functions use.
mod Turns
mod Readings
