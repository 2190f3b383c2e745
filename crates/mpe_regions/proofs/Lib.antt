pub mod KeyLemmas
pub mod PlaceLemmas
pub mod SoundLemmas
pub mod LoadLemmas
mod KnownAreas
pub mod LinkLemmas
pub mod SearchSteps
pub mod TableMoves
pub mod FoundLemmas
pub mod LinkReads
pub mod TableChanges
pub mod FreshLemmas
pub mod TableAfter
