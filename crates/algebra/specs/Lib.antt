pub mod Frames
pub mod Showings
pub mod Statements
