-- In reading order.
pub mod AnswerLemmas
pub mod TargetLemmas
pub mod AssignLemmas
