pub mod Agree
pub mod Lawful
pub mod Shown
pub mod Looks
pub mod Effects
pub mod Kept
pub mod Steps
pub mod Runs
