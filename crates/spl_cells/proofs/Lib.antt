-- In reading order.
pub mod PutLemmas
pub mod StepLemmas
pub mod CellLemmas
pub mod InitialLemmas
pub mod SetLemmas
