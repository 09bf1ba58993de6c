pub mod Sight
pub mod Calls
pub mod Loading
