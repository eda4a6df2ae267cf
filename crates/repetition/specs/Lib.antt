pub mod Listings
pub mod Passing
pub mod Laws
pub mod Listed
