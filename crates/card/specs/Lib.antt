pub mod Alphabet
pub mod Laws
pub mod Layout
pub mod Letters
pub mod Made
pub mod Make
pub mod Stored
