-- In reading order: lists of numbers; a way along links; the links of nodes; one link written; the rings.
pub mod Lists
pub mod Ways
pub mod Nodes
pub mod Writes
pub mod Rings
