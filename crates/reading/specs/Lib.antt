pub mod Entering
pub mod Moving
