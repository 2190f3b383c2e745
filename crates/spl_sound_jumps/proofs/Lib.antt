-- In reading order.
mod KnownLanded
pub mod JumpLaws
