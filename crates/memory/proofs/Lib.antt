pub mod Chunks
pub mod Places
pub mod Shows
pub mod Tested
pub mod Written
