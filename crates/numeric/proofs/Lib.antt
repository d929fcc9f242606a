pub mod ChoiceLaws
pub mod ShareLaws
pub mod TableLaws
pub mod GreatestLaws
