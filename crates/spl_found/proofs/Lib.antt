pub mod Order
pub mod OwnNames
pub mod FoundExpressions
pub mod FoundStatements
pub mod FoundDeclarations
pub mod FoundUnits
