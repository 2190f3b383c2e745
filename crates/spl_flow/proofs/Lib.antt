pub mod ViewLemmas
pub mod LabelLemmas
pub mod Walks
