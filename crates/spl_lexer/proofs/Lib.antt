pub mod DefineLemmas
pub mod SegmentLemmas
pub mod UseLemmas
pub mod PhaseLemmas
pub mod SettingLemmas
pub mod StepLemmas
pub mod AnswerLemmas
