pub mod Laws
pub mod TableSteps
pub mod Carried
