pub mod ParseLemmas
pub mod NameLemmas
