pub mod Wire
pub mod Frames
pub mod Worked
pub mod InsideStream
