pub mod Counts
pub mod Limits
pub mod Meaning
pub mod Memory
pub mod Places
pub mod Within
pub mod Write
