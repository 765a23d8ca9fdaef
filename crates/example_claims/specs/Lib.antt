pub mod Examples
pub mod Sharp
