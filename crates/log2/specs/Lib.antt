pub mod Logarithm
pub mod Tables
