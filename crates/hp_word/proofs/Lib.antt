mod KnownWords
mod KnownBits
mod KnownTexts
mod KnownIntrinsics
pub mod BitLemmas
pub mod ShiftLemmas
pub mod FieldLemmas
pub mod TextLemmas
pub mod NumberLemmas
pub mod WordLaws
pub mod TextLaws
pub mod ByteLaws
pub mod IntrinsicLaws
