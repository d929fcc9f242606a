pub mod Terms
pub mod Scales
