-- In reading order: the state and the words in which rows are told, results, places, what rows keep, and what the struct stands for.
pub mod State
pub mod Results
pub mod Places
pub mod Keeping
pub mod SessionView
