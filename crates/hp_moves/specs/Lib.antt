pub mod MoveUses
pub mod MoveSteps
