pub mod Rising
pub mod Networks
pub mod Answers
pub mod Acting
pub mod Sending
pub mod Bare
pub mod Worked
