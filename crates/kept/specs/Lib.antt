pub mod Shows
pub mod Code
pub mod CodeOf
pub mod Calls
pub mod History
pub mod Statements
