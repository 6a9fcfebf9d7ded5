pub mod Placing
pub mod Rules
pub mod Composing
pub mod ComposedLaw
pub mod Steps
