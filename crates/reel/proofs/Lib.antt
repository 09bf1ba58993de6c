pub mod Notes
pub mod Found
pub mod Loaded
pub mod Keeping
