pub mod FoundExpressions
pub mod FoundStatements
pub mod OwnNames
pub mod FoundDeclarations
pub mod FoundUnits
