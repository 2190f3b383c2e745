pub mod LabelWalks
pub mod LandingWalks
