pub mod Field
pub mod Passing
pub mod Fields
pub mod Scanning
pub mod Gates
pub mod Views
pub mod Laws
pub mod Order
pub mod Values
pub mod Grammar
pub mod Theorems
mod Examples
