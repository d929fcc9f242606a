pub mod Judging
pub mod Effects
pub mod Timings
pub mod Steps
