pub mod Grammar
pub mod Statements
