-- In reading order.
pub mod KnownWords
pub mod OperationsMask
pub mod RangeLemmas
pub mod RoundTripLaws
pub mod FieldLaws
pub mod GivenLaws
pub mod FieldRanges
pub mod LabelLaws
