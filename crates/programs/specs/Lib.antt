pub mod Reading
