pub mod Cards
pub mod Answers
pub mod List
