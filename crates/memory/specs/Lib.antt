pub mod Every
pub mod Plan
pub mod Shows
