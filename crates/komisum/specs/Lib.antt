pub mod Ending
pub mod Program
pub mod Settings
pub mod Watched
