pub mod LimitWalks
pub mod LimitLaws
