pub mod Marks
pub mod Lengths
pub mod Reading
pub mod Wrong
pub mod Decision
