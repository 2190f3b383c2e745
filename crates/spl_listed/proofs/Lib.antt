pub mod ListLemmas
pub mod ItemLemmas
pub mod TreeLemmas
