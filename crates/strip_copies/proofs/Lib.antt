pub mod Cells
mod Copied
mod Examples
pub mod Grown
pub mod Holdings
pub mod Joined
pub mod Samples
mod Shared
pub mod Sources
pub mod Straight
pub mod Strips
pub mod Told
