pub mod FieldRows
pub mod FieldUses
