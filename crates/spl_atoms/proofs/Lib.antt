pub mod ViewLemmas
pub mod NestLemmas
pub mod PieceLemmas
