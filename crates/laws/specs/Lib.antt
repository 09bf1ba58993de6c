pub mod Ops
pub mod Inside
pub mod Binary
pub mod Modular
pub mod Logarithms
pub mod Instances
