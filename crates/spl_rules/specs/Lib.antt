pub mod Parts
pub mod ExpressionParts
pub mod StatementParts
pub mod DeclarationParts
pub mod Roles
pub mod Breaking
pub mod Laws
