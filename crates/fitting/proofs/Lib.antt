pub mod Counting
pub mod Chains
pub mod Naming
pub mod Deciding
