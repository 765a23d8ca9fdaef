pub mod RecordSentences
pub mod BookSentences
pub mod Marking
