-- In reading order.
pub mod OperatorLemmas
pub mod UnaryLemmas
pub mod DoubleLemmas
