mod Here
mod Cases
mod NameTests
mod Misused
mod Gathered
mod Listed
