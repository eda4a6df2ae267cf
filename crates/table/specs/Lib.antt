pub mod Table
pub mod Laws
pub mod Derived
pub mod Stands
pub mod Roots
