pub mod Answers
pub mod Escaping
pub mod Measures
pub mod Metrics
pub mod Page
pub mod Requests
