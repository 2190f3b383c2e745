pub mod SameSymbol
pub mod KnownParts
pub mod KnownUnits
pub mod KnownDeclarations
