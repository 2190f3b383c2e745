-- In reading order.
pub mod AnswerLemmas
