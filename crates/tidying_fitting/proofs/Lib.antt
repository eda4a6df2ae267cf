-- What the proofs of the functions share.
mod Told
mod Passed
mod Walked
mod Blocks
mod Wanted
