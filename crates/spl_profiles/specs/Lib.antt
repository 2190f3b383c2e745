pub mod NameSets
pub mod Listings
pub mod Headings
