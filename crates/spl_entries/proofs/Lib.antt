pub mod EntryWalks
