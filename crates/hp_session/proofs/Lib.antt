pub mod KeepingForms
pub mod KeepingLaws
