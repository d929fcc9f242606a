pub mod Choice
pub mod Share
pub mod Greatest
