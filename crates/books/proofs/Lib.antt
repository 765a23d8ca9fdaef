pub mod DirectionLaws
pub mod BookReturnLaws
