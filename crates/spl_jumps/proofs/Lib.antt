-- In reading order.
pub mod JumpLemmas
pub mod LabelLemmas
pub mod LandLemmas
pub mod ArmLemmas
pub mod LandedLemmas
