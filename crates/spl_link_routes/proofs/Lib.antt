-- In reading order.
pub mod LinkLemmas
