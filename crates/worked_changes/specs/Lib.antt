pub mod WorkedRouted
pub mod WorkedSteps
