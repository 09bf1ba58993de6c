pub mod Lines
pub mod Statements
pub mod Texts
