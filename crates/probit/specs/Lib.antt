pub mod Table
pub mod Chance
pub mod Rows
