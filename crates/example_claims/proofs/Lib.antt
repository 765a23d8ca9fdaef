pub mod UnsealingLaws
pub mod ComputedClaims
pub mod SharpClaims
pub mod RingExample
