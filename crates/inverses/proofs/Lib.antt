pub mod AgainLaws
pub mod BitLaws
