pub mod StayForms
pub mod StackStays
pub mod WordStays
pub mod MemoryStays
pub mod MoveStays
pub mod GateStays
pub mod ProgramLaws
