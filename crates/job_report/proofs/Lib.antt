pub mod NumberLemmas
pub mod LineLemmas
pub mod ReportLemmas
pub mod ListingLemmas
pub mod KnownTexts
