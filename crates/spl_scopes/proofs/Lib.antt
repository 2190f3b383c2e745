-- In reading order.
mod KnownUnits
mod KnownScopes
mod KnownEntries
pub mod ProgramLaws
