pub mod Ended
mod Examples
pub mod Feeds
pub mod Going
pub mod Heads
pub mod Listed
pub mod Stages
pub mod Walked
