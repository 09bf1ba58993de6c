pub mod Tables
pub mod Encodes
