pub mod Request
pub mod Answer
pub mod Ends
pub mod Headline
pub mod Running
