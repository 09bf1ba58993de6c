pub mod Ranks
pub mod Trying
pub mod Noting
