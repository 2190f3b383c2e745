-- In reading order: the area and its keys, what changes it, where its regions lie, what the struct stands for, and the
-- laws.
pub mod Area
pub mod Loads
pub mod Sound
pub mod Kept
pub mod Searches
pub mod LinkedForm
pub mod Fresh
pub mod AreaLaws
