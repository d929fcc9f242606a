pub mod ListLaws
pub mod PrintLaws
pub mod Specimen
