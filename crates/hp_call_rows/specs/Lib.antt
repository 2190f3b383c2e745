-- In reading order: the intrinsics, and the calls through which they are reached.
pub mod GateRows
pub mod CallRows
