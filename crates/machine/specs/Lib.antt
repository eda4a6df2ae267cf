pub mod Rows
pub mod Kinds
pub mod Steps
pub mod Layout
pub mod Trees
pub mod Laid
pub mod Words
pub mod Inner
pub mod Compiled
pub mod Checked
pub mod Replies
pub mod Allowed
pub mod Repetition
pub mod Repeated
pub mod Once
pub mod Examples
mod Repetitions
