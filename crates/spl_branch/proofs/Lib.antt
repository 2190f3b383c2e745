-- In reading order.
pub mod MarkLemmas
pub mod FormedLemmas
pub mod SurveyLemmas
pub mod WordLemmas
pub mod RoundLemmas
pub mod StandLemmas
pub mod WalkLemmas
pub mod ChoiceLemmas
pub mod StandingLemmas
pub mod KeyLemmas
pub mod FixLemmas
pub mod CodeLaws
pub mod KnownPieces
pub mod ShiftLemmas
