pub mod Filters
pub mod Profiles
pub mod Rings
pub mod Shuffles
pub mod Trees
