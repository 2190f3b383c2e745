-- In reading order.
pub mod ListWalks
pub mod Begins
pub mod Ends
pub mod Uses
pub mod Picks
pub mod KnownPicks
