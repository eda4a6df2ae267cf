pub mod Words
pub mod Threads
pub mod Held
pub mod Laws
pub mod Queues
pub mod Active
