pub mod LineLaws
pub mod NumeralLaws
