pub mod Answers
pub mod Bodies
pub mod Calls
pub mod Frames
pub mod Picking
pub mod Seeking
