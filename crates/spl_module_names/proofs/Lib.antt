pub mod OutlineLaws
pub mod Through
pub mod FaultLaws
