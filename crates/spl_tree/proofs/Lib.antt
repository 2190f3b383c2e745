pub mod KnownSymbols
