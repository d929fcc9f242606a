pub mod Death
