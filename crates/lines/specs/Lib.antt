pub mod LineStates
