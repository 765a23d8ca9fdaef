pub mod CoreSteps
