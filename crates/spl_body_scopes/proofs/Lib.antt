-- In reading order.
pub mod PlaceSteps
pub mod LevelLemmas
pub mod ScopeLaws
pub mod FoundLaws
pub mod UnitLaws
