pub mod TurnLemmas
pub mod PointLemmas
