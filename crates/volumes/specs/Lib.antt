pub mod Root
pub mod Tables
