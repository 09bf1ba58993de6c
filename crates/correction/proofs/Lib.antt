pub mod Checks
pub mod Rows
pub mod Sites
pub mod Steps
pub mod Strips
pub mod Silent
pub mod Lists
