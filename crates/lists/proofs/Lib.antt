pub mod LengthLaws
pub mod WalkLaws
pub mod ListReturnLaws
