pub mod NumberLaws
mod KnownNumbers
mod KnownFlushes
