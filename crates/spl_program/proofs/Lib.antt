pub mod EndLemmas
pub mod TextLemmas
pub mod ListLemmas
pub mod LoopLemmas
pub mod ProgramLaws
pub mod AnswerLemmas
