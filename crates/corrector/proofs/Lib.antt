pub mod Preparing
pub mod Granting
