pub mod ByteLemmas
pub mod GateLemmas
pub mod GateKeeping
pub mod CallKeeping
