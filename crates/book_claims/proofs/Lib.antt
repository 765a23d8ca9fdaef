pub mod RecordClaims
pub mod SealedFormLaws
pub mod ReorderedLaws
pub mod BookClaims
pub mod CountingLaws
pub mod PairingLaws
pub mod MarkingClaims
