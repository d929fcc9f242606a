pub mod Report
pub mod Lines
pub mod Prints
pub mod Specimen
