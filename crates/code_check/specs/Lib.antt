pub mod Check
mod Examples
