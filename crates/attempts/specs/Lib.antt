pub mod Shown
pub mod Attempts
