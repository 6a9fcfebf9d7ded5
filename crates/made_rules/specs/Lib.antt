pub mod Rules
pub mod Parting
pub mod Changing
pub mod Coming
