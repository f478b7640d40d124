pub mod Borrows
pub mod Calls
pub mod Counts
pub mod Generator
pub mod Hash
pub mod Hasher
pub mod Internals
pub mod Padding
pub mod Rounds
pub mod Saved
mod Sealed
pub mod Stream
pub mod Tallies
pub mod Words
