pub mod NameLemmas
pub mod NameWalks
pub mod HeadingWalks
pub mod HeadingLaws
