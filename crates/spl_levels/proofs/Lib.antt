pub mod LevelLemmas
pub mod PieceLemmas
