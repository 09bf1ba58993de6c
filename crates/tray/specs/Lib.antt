pub mod Laws
pub mod Layout
pub mod Made
pub mod Make
pub mod Stored
