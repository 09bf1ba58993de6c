pub mod Filling
pub mod Inside
pub mod Places
pub mod Shown
pub mod Writing
