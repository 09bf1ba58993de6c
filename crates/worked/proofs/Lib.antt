pub mod Tested
pub mod OnCards
pub mod OnBytes
