pub mod CopyLaws
pub mod SameLaws
pub mod WordLaws
