pub mod SpelledLists
