pub mod ZeroLemmas
