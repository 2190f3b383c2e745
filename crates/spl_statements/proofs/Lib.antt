pub mod NestLemmas
pub mod PieceLemmas
