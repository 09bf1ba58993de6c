pub mod Nearing
pub mod Tries
