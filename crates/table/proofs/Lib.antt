-- What the proofs of `along`, `derive` and `put` use.
mod Walk
mod Made
