pub mod References
pub mod ReferenceRows
pub mod ReferenceUses
