pub mod Kept
pub mod Numerals
pub mod Text
