pub mod RegisterStateLaws
