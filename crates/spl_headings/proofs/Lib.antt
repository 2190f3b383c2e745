pub mod SpecLemmas
pub mod OptionLemmas
