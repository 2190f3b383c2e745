-- In reading order: references and branches, and then moves, which go by references.
pub mod MemoryRows
pub mod MoveRows
