pub mod Entries
pub mod Variants
pub mod TrueClaims
pub mod FalseClaims
pub mod Reasons
