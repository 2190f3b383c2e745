pub mod NamedEntries
