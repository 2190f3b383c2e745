pub mod Steady
mod FrameReferences
mod FrameOperations
mod FrameElements
mod FrameValues
mod FrameStatements
mod FrameRuns
mod PartLaws
pub mod WordFacts
mod WordRuns
mod SizeLaws
mod UseLaws
mod CallLaws
mod LawfulStates
mod EntryLaws
